use Rattle.scm_open_session.specs.Boxes.{box_value}
use Rattle.scm_c_values.specs.States.{code_of_question, side_at}
use Rattle.scm_open_session.specs.Questions.{asked_state}
use Rattle.scm_c_values.proofs.QuestionLemmas.{asked_code, coded_as, unasked_code}
use Rattle.scm_open_session.proofs.question_calls.ask_side.Goals as goal

pub returns-in-Ok-clause-code : goal.returns-in-Ok-clause-code
returns-in-Ok-clause-code c =
    asked_code (side_at c.args.file c.args.selected) (asked_state (box_value c.args.session.now)) c.in-Ok.state.now c.tell_side_at.result c.in-Ok.ensures.state c.tell_side_at.ensures.code

pub returns-in-Err-clause-code : goal.returns-in-Err-clause-code
returns-in-Err-clause-code c =
    coded_as (code_of_question (side_at c.args.file c.args.selected) (asked_state (box_value c.args.session.now))) c.in-Err.code
    (unasked_code (side_at c.args.file c.args.selected) (asked_state (box_value c.args.session.now)) c.in-Err.code c.in-Err.ensures.state)
