use Rattle.std.proofs.Common.{sym, subst}
use Rattle.scm_open_session.specs.declared.open_session.Stage.{Stage}
use Rattle.scm_open_session.specs.Batches.{PressesAll}
use Rattle.scm_open_session.proofs.open_session.pressed_all.Goals as goal

pub returns-in-Waiting-clause-pressed : goal.returns-in-Waiting-clause-pressed
returns-in-Waiting-clause-pressed c = λ done.
    subst (λ (s : Stage). PressesAll c.args.events.now s c.after_batch.result) (sym c.in-Waiting.is) c.after_batch.ensures
