use Rattle.std.proofs.Common.{Some, refl, ap, ◌∙◌}
use Rattle.scm_open_session.specs.Boxes.{box_value}
use Rattle.scm_open_session.specs.LayerCalls.{SetsStart, is_view}
use Rattle.scm_open_session.proofs.StageLemmas.{stage-changes}
use Rattle.scm_open_session.proofs.ResultLemmas.{call_code}
use Rattle.scm_open_session.proofs.layer_calls.start_at.Goals as goal

pub returns-in-Some-clause-set : goal.returns-in-Some-clause-set
returns-in-Some-clause-set c = λ done.
    stage-changes (SetsStart c.args.folds c.args.first) (box_value c.args.session.now) (Some c.start.new.self) c.in-Some.inner.value c.deref_mut.result.now c.start.new.self
    (ap box_value c.in-Some.is) c.deref_mut.ensures.value refl (c.start.ensures.set (c.done_or_not_now.ensures.done done)) c.start.ensures.decoder c.start.ensures.painter

pub returns-in-Some-clause-code : goal.returns-in-Some-clause-code
returns-in-Some-clause-code c =
    c.done_or_not_now.ensures.code
    ∙ call_code is_view (box_value c.args.session.now) c.in-Some.inner.value c.deref_mut.result.now c.start.result
    (ap box_value c.in-Some.is) c.deref_mut.ensures.value c.start.ensures.is_view
