use Rattle.std.proofs.Common.{subst}
use Rattle.scm_open_session.specs.declared.open_session.Stage.{Stage}
use Rattle.scm_open_session.specs.LayerCalls.{StartsView}
use Rattle.scm_open_session.proofs.open_session.OpenSession.begin_layer.Goals as goal

pub returns-clause-starts : goal.returns-clause-starts
returns-clause-starts c =
    subst (λ (s : Stage). StartsView c.args.width c.args.height s c.begun_view-stage.result.0 c.begun_view-stage.result.1) c.take_stage.ensures.stage c.begun_view-stage.ensures
