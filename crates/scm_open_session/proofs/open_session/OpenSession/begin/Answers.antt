use Rattle.std.proofs.Common.{subst}
use Rattle.scm_open_session.specs.declared.open_session.Stage.{Stage}
use Rattle.scm_open_session.specs.Building.{Starts}
use Rattle.scm_input.specs.declared.inputs.TerminalKind.{TerminalKind}
use Rattle.scm_open_session.proofs.open_session.OpenSession.begin.Goals as goal

pub returns-clause-starts : goal.returns-clause-starts
returns-clause-starts c =
    subst (λ (kind : TerminalKind). Starts kind c.args.self.now.stage c.begun-stage.result.0 c.begun-stage.result.1) c.screen.ensures
    (subst (λ (s : Stage). Starts c.screen.result s c.begun-stage.result.0 c.begun-stage.result.1) c.take_stage.ensures.stage c.begun-stage.ensures)
