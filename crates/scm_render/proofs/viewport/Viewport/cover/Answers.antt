use Rattle.std.proofs.Common.{sym, refl}
use Rattle.scm_render.proofs.CanvasLemmas.{with_picture-covering, RectInRange-kept}
use Rattle.scm_render.proofs.viewport.Viewport.cover.Goals as goal

pub returns-clause-new : goal.returns-clause-new
returns-clause-new g c = rw (sym c.self.view_is) (with_picture-covering _ _ _ refl refl c.grown_in-self-inside.ensures refl)

pub invariant_of-self : goal.invariant_of-self
invariant_of-self g c =
    record {
      mask = c.self.invariant.mask;
      area = rw c.grown_in-self-inside.ensures (RectInRange-kept _ _ _ c.self.invariant.area c.requires);
      within = c.self.invariant.within;
      in_range = c.self.invariant.in_range;
    }
