use Rattle.std.proofs.Common.{◌≡◌, [], subst}
use Rattle.scm_record.specs.Live.{Live}
use Rattle.scm_front.proofs.RememberLemmas.{begun-calm}
use Rattle.scm_front.proofs.begun.Begun.live.Goals as goal

pub returns-clause-calm : goal.returns-clause-calm
returns-clause-calm c = subst (λ (l : Live). l.session.pending ≡ []) c.self.view_is (begun-calm c.self.inside.live c.self.invariant.begun)
