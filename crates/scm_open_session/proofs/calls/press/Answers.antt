use Rattle.std.proofs.Common.{sym, ◌∙◌}
use Rattle.scm_open_session.specs.Boxes.{box_value}
use Rattle.scm_open_session.proofs.StageLemmas.{hands-in}
use Rattle.scm_open_session.proofs.ResultLemmas.{press_code}
use Rattle.scm_c_values.specs.Pieces.{event_of_bytes}
use Rattle.scm_open_session.proofs.calls.press.Goals as goal

pub returns-in-Some-clause-code : goal.returns-in-Some-clause-code
returns-in-Some-clause-code c =
    c.hand_in.ensures.code ∙ press_code c.in-Some.event (event_of_bytes c.args.word.now) (box_value c.args.session.now) (sym c.event_of.ensures ∙ c.in-Some.is)

pub returns-in-Some-clause-pressed : goal.returns-in-Some-clause-pressed
returns-in-Some-clause-pressed c = λ done.
    hands-in c.in-Some.event (event_of_bytes c.args.word.now) (box_value c.args.session.now) (box_value c.hand_in.new.session)
    (sym c.event_of.ensures ∙ c.in-Some.is) (c.hand_in.ensures.pressed done)
