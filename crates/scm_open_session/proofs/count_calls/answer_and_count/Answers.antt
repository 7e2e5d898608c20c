use Rattle.std.proofs.Common.{ℕ, List, subst}
use Rattle.scm_open_session.specs.Boxes.{box_value}
use Rattle.scm_open_session.specs.Counting.{SaysAndCounts, is_plain_editing}
use Rattle.scm_open_session.specs.Results.{code_where}
use Rattle.scm_open_session.specs.Stages.{ChangesStage}
use Rattle.scm_c_values.proofs.CodeLemmas.{message_code}
use Rattle.scm_open_session.proofs.count_calls.answer_and_count.Goals as goal

pub returns-in-Ok-clause-code : goal.returns-in-Ok-clause-code
returns-in-Ok-clause-code c =
    message_code c.args.text.now (code_where is_plain_editing (box_value c.args.session.now)) c.say_and_count.result c.in-Ok.ensures.good c.say_and_count.ensures.code

pub returns-in-Ok-clause-said : goal.returns-in-Ok-clause-said
returns-in-Ok-clause-said c = λ done.
    subst (λ (text : List ℕ). ChangesStage (SaysAndCounts text c.say_and_count.new.handled) (box_value c.args.session.now) (box_value c.say_and_count.new.session)) c.in-Ok.ensures.ok
    (c.say_and_count.ensures.said done)

pub returns-in-Err-clause-code : goal.returns-in-Err-clause-code
returns-in-Err-clause-code c = c.in-Err.ensures.err (code_where is_plain_editing (box_value c.args.session.now))
