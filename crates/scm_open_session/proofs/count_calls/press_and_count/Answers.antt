use Rattle.scm_open_session.specs.Boxes.{box_value}
use Rattle.scm_c_values.specs.Pieces.{events_of_bytes}
use Rattle.scm_open_session.specs.Counting.{is_plain_waiting}
use Rattle.scm_open_session.specs.Results.{code_where}
use Rattle.scm_open_session.proofs.CountLemmas.{counted_code, counted_in, counted_refused}
use Rattle.scm_open_session.proofs.count_calls.press_and_count.Goals as goal

pub returns-in-Ok-clause-code : goal.returns-in-Ok-clause-code
returns-in-Ok-clause-code c =
    counted_code (events_of_bytes c.args.words.now) c.in-Ok.events.items (box_value c.args.session.now) c.hand_in_and_count.result
    c.in-Ok.ensures.ok c.hand_in_and_count.ensures.code

pub returns-in-Ok-clause-pressed : goal.returns-in-Ok-clause-pressed
returns-in-Ok-clause-pressed c = λ done.
    counted_in (events_of_bytes c.args.words.now) c.in-Ok.events.items c.as_slice.result.now c.hand_in_and_count.new.handled (box_value c.args.session.now) (box_value c.hand_in_and_count.new.session)
    c.in-Ok.ensures.ok c.as_slice.ensures.value (c.hand_in_and_count.ensures.pressed done)

pub returns-in-Err-clause-code : goal.returns-in-Err-clause-code
returns-in-Err-clause-code c =
    counted_refused (events_of_bytes c.args.words.now) (box_value c.args.session.now) c.in-Err.code
    (c.in-Err.ensures.err (code_where is_plain_waiting (box_value c.args.session.now)))
