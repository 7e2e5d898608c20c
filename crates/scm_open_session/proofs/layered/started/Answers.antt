use Rattle.std.proofs.Common.{sym, subst}
use Rattle.scm_open_session.specs.declared.open_session.Stage.{Stage}
use Rattle.scm_open_session.specs.LayerCalls.{SetsStart}
use Rattle.scm_open_session.proofs.layered.started.Goals as goal

pub returns-in-Waiting-clause-set : goal.returns-in-Waiting-clause-set
returns-in-Waiting-clause-set c = λ done.
    subst (λ (s : Stage). SetsStart c.args.folds c.args.first s c.after_start.result.0) (sym c.in-Waiting.is) (c.after_start.ensures.set done)
