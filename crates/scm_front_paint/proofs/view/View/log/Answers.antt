use Rattle.std.proofs.Common.{◌∙◌, ap, subst, sym}
use Rattle.scm_front.specs.declared.layer.Front.{Front}
use Rattle.scm_front_paint.specs.Seen.{IsSeen, seen}
use Rattle.scm_front_paint.proofs.view.View.log.Goals as goal

pub invariant_of-self : goal.invariant_of-self
invariant_of-self c = subst (λ (f : Front). IsSeen (seen f c.self.inside.pane)) (sym c.log.ensures) c.self.invariant

pub returns : goal.returns
returns c = ap (λ (f : Front). seen f c.self.inside.pane) c.log.ensures ∙ c.self.view_is
