use Rattle.std.proofs.Common.{◌∙◌, sym, ap, refl}
use Rattle.scm_render.specs.Around.{join}
use Rattle.scm_render.proofs.CanvasLemmas.{with_picture-noted, RectInRange-kept}
use Rattle.scm_render.proofs.AroundLemmas.{no_rect-from}
use Rattle.scm_render.proofs.viewport.Viewport.note_box.Goals as goal

pub returns-clause-ok : goal.returns-clause-ok
returns-clause-ok g c =
    let y = c.default.ensures in
    let none = no_rect-from c.default.result y.0 y.1.0 y.1.1.0 y.1.1.1 in
    rw (sym c.self.view_is)
    (with_picture-noted _ _ c.args.id c.args.covered c.grown-own.result refl refl c.grown_in-area.ensures
    (c.grown-own.ensures ∙ ap (λ r. join r c.args.covered) none)
    c.in_ok-push_box.ensures.ok)

pub invariant_of-self-2 : goal.invariant_of-self-2
invariant_of-self-2 g c =
    record {
      mask = c.self.invariant.mask;
      area = rw c.grown_in-area.ensures (RectInRange-kept _ _ _ c.self.invariant.area c.requires);
      within = c.self.invariant.within;
      in_range = c.self.invariant.in_range;
    }
