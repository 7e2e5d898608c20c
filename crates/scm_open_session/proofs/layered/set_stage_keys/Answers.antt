use Rattle.std.proofs.Common.{sym, subst}
use Rattle.scm_open_session.specs.declared.open_session.Stage.{Stage}
use Rattle.scm_open_session.specs.declared.open_session.Stage.TheVariants.{Waiting}
use Rattle.scm_open_session.specs.OwnKeys.{SetsKeys}
use Rattle.scm_open_session.proofs.layered.set_stage_keys.Goals as goal

pub returns-in-Waiting-clause-set : goal.returns-in-Waiting-clause-set
returns-in-Waiting-clause-set c = λ done.
    subst (λ (s : Stage). SetsKeys c.args.keys s (Waiting c.set_keys.new.session)) (sym c.in-Waiting.is) (c.set_keys.ensures.set done)
