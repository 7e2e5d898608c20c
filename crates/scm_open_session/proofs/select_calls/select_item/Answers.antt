use Rattle.std.proofs.Common.{Some, refl, ap, ◌∙◌}
use Rattle.scm_open_session.specs.Boxes.{box_value}
use Rattle.scm_open_session.specs.Selecting.{Selects}
use Rattle.scm_open_session.proofs.StageLemmas.{stage-changes}
use Rattle.scm_open_session.proofs.MarkingLemmas.{select_session_code}
use Rattle.scm_open_session.proofs.select_calls.select_item.Goals as goal

pub returns-in-Some-clause-selected : goal.returns-in-Some-clause-selected
returns-in-Some-clause-selected c = λ done.
    stage-changes (Selects c.args.key) (box_value c.args.session.now) (Some c.select.new.self) c.in-Some.inner.value c.deref_mut.result.now c.select.new.self
    (ap box_value c.in-Some.is) c.deref_mut.ensures.value refl (c.select.ensures.selected done) c.select.ensures.decoder c.select.ensures.painter

pub returns-in-Some-clause-code : goal.returns-in-Some-clause-code
returns-in-Some-clause-code c =
    select_session_code c.args.key (box_value c.args.session.now) c.in-Some.inner.value c.deref_mut.result.now c.select.result
    (ap box_value c.in-Some.is) c.deref_mut.ensures.value c.select.ensures.code
