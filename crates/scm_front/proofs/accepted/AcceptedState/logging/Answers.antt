use Rattle.std.proofs.Common.{subst}
use Rattle.scm_types.specs.declared.state.RecordState.{RecordState}
use Rattle.scm_record.specs.declared.live.Turn.TheVariants.{Accepted}
use Rattle.scm_front.specs.Logging.{IsLogged}
use Rattle.scm_front.proofs.accepted.AcceptedState.logging.Goals as goal

pub returns : goal.returns
returns c = subst (λ (state : RecordState). IsLogged c.self.inside.logging (Accepted state)) c.self.view_is c.self.invariant
