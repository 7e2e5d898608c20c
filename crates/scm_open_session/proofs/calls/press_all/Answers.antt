use Rattle.scm_open_session.specs.Boxes.{box_value}
use Rattle.scm_c_values.specs.Pieces.{events_of_bytes}
use Rattle.scm_open_session.specs.Results.{code_of_call}
use Rattle.scm_open_session.proofs.BatchLemmas.{batch_code, batch_in, batch_refused}
use Rattle.scm_open_session.proofs.calls.press_all.Goals as goal

pub returns-in-Ok-clause-code : goal.returns-in-Ok-clause-code
returns-in-Ok-clause-code c =
    batch_code (events_of_bytes c.args.words.now) c.in-Ok.events.items (box_value c.args.session.now) c.hand_in_all.result
    c.in-Ok.ensures.ok c.hand_in_all.ensures.code

pub returns-in-Ok-clause-pressed : goal.returns-in-Ok-clause-pressed
returns-in-Ok-clause-pressed c = λ done.
    batch_in (events_of_bytes c.args.words.now) c.in-Ok.events.items c.as_slice.result.now (box_value c.args.session.now) (box_value c.hand_in_all.new.session)
    c.in-Ok.ensures.ok c.as_slice.ensures.value (c.hand_in_all.ensures.pressed done)

pub returns-in-Err-clause-code : goal.returns-in-Err-clause-code
returns-in-Err-clause-code c =
    batch_refused (events_of_bytes c.args.words.now) (box_value c.args.session.now) c.in-Err.code
    (c.in-Err.ensures.err (code_of_call (box_value c.args.session.now)))
