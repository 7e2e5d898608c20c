use Rattle.std.proofs.Common.{subst}
use Rattle.scm_record.specs.Live.{Live}
use Rattle.scm_record.specs.declared.live.Turn.TheVariants.{Waiting}
use Rattle.scm_front.specs.Logging.{IsLogged}
use Rattle.scm_front.proofs.begun.Begun.logging.Goals as goal

pub returns : goal.returns
returns c = subst (λ (l : Live). IsLogged c.self.inside.logging (Waiting l)) c.self.view_is c.self.invariant.logged
