use Rattle.std.proofs.Common.{Some, ap, sym, ◌∙◌}
use Rattle.scm_open_session.specs.Boxes.{box_value}
use Rattle.scm_open_session.specs.declared.open_session.OpenSession.{OpenSession}
use Rattle.scm_open_session.proofs.LoggingLemmas.{log-closed, log-code}
use Rattle.scm_open_session.proofs.layer_calls.log.Goals as goal

pub returns-in-Some-clause-code : goal.returns-in-Some-clause-code
returns-in-Some-clause-code c =
    log-code (box_value c.args.session.now) c.in-Some.inner.value c.deref_mut.result.now c.begin_log.result c.done_or_not_now.result
    (ap box_value c.in-Some.is) c.deref_mut.ensures.value c.done_or_not_now.ensures.code c.begin_log.ensures.is_view

pub returns-in-Some-clause-kept : goal.returns-in-Some-clause-kept
returns-in-Some-clause-kept c =
    ap (λ (inner : OpenSession). Some inner) (c.begin_log.ensures.kept ∙ c.deref_mut.ensures.value) ∙ sym (ap box_value c.in-Some.is)

pub returns-in-None-clause-code : goal.returns-in-None-clause-code
returns-in-None-clause-code c = log-closed (box_value c.args.session.now) (ap box_value c.in-None.is)
