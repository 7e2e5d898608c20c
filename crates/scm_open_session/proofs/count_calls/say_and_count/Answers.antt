use Rattle.std.proofs.Common.{Some, refl, ap}
use Rattle.std.specs.Prelude.{string_bytes}
use Rattle.scm_open_session.specs.Boxes.{box_value}
use Rattle.scm_open_session.specs.Counting.{SaysAndCounts}
use Rattle.scm_open_session.proofs.StageLemmas.{stage-changes}
use Rattle.scm_open_session.proofs.count_calls.say_and_count.Goals as goal

pub returns-in-Some-answer_and_count-clause-said : goal.returns-in-Some-answer_and_count-clause-said
returns-in-Some-answer_and_count-clause-said c = λ done.
    stage-changes (SaysAndCounts (string_bytes c.args.text) c.in-Some-answer_and_count.later) (box_value c.args.session.now) (Some c.answer_and_count.new.self) c.in-Some.inner.value c.deref_mut.result.now c.answer_and_count.new.self
    (ap box_value c.in-Some.is) c.deref_mut.ensures.value refl c.in-Some-answer_and_count.ensures.said c.answer_and_count.ensures.decoder c.answer_and_count.ensures.painter
