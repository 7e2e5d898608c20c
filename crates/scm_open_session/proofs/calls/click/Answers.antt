use Rattle.std.proofs.Common.{Some, refl, ap, ◌∙◌}
use Rattle.scm_open_session.specs.Boxes.{box_value}
use Rattle.scm_open_session.specs.Stages.{Clicks, is_waiting}
use Rattle.scm_open_session.proofs.StageLemmas.{stage-changes}
use Rattle.scm_open_session.proofs.ResultLemmas.{call_code}
use Rattle.scm_open_session.proofs.calls.click.Goals as goal

pub returns-in-Some-clause-clicked : goal.returns-in-Some-clause-clicked
returns-in-Some-clause-clicked c = λ done.
    stage-changes (Clicks c.args.row c.args.column) (box_value c.args.session.now) (Some c.click.new.self) c.in-Some.inner.value c.deref_mut.result.now c.click.new.self
    (ap box_value c.in-Some.is) c.deref_mut.ensures.value refl (c.click.ensures.clicked (c.done_or_not_now.ensures.done done)) c.click.ensures.decoder c.click.ensures.painter

pub returns-in-Some-clause-code : goal.returns-in-Some-clause-code
returns-in-Some-clause-code c =
    c.done_or_not_now.ensures.code
    ∙ call_code is_waiting (box_value c.args.session.now) c.in-Some.inner.value c.deref_mut.result.now c.click.result
    (ap box_value c.in-Some.is) c.deref_mut.ensures.value c.click.ensures.is_waiting
