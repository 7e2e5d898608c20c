use Rattle.std.proofs.Common.{subst}
use Rattle.scm_record.specs.Live.{LiveEdit}
use Rattle.scm_record.specs.declared.live.Turn.TheVariants.{Editing}
use Rattle.scm_front.specs.Logging.{IsLogged}
use Rattle.scm_front.proofs.begun.BegunEdit.logging.Goals as goal

pub returns : goal.returns
returns c = subst (λ (a : LiveEdit). IsLogged c.self.inside.logging (Editing a)) c.self.view_is c.self.invariant.logged
