use Rattle.std.proofs.Common.{sym, subst}
use Rattle.scm_open_session.specs.declared.open_session.Stage.{Stage}
use Rattle.scm_open_session.specs.Stages.{Presses}
use Rattle.scm_open_session.proofs.open_session.pressed.Goals as goal

pub returns-in-Waiting-clause-pressed : goal.returns-in-Waiting-clause-pressed
returns-in-Waiting-clause-pressed c = λ done.
    subst (λ (s : Stage). Presses c.args.event s c.after_event.result) (sym c.in-Waiting.is) c.after_event.ensures
