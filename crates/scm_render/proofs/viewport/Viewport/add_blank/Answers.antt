use Rattle.scm_cells.specs.declared.rect.Rect.{Rect}
use Rattle.scm_render.proofs.CanvasLemmas.{RectInRange-kept}
use Rattle.std.proofs.Common.{rules, ◌∙◌, sym, ap, refl}
use Rattle.scm_cells.specs.Rect.{intersect_of}
use Rattle.scm_render.specs.Drawing.{reach}
use Rattle.scm_render.proofs.DrawLemmas.{with_picture-blank, blank_in_range}
use Rattle.scm_render.proofs.PaintLemmas.{with_puts-counts}
use Rattle.scm_render.proofs.CountLemmas.{added-none}
use Rattle.scm_render.proofs.viewport.Viewport.add_blank.Goals as goal

pub intersect-part-requires-clause-left : goal.intersect-part-requires-clause-left
intersect-part-requires-clause-left g c = blank_in_range _ _ c.requires

pub grown_in-self-inside-requires-clause-rect : goal.grown_in-self-inside-requires-clause-rect
grown_in-self-inside-requires-clause-rect g c = blank_in_range _ _ c.requires

pub returns-clause-draws : goal.returns-clause-draws
returns-clause-draws g c =
    record {
      ok =
          rw (sym c.self.view_is)
          (with_picture-blank _ _ _ c.intersect-part.result c.args.rect
          (c.intersect-part.ensures.fields ∙ ap (λ m. intersect_of c.args.rect m) (c.mask_rect.ensures.value ∙ ap (λ v. reach v.canvas.sight) (sym c.self.view_is)))
          c.in_ok-fill.ensures.ok refl
          c.grown_in-self-inside.ensures
          refl);
      counts = with_puts-counts _ _ _ c.in_ok-fill.ensures.ok ∙ ap (λ v. v.counts) c.self.view_is ∙ sym (added-none _);
      rect = search rules;
      err = search rules;
    }

pub invariant_of-self-2 : goal.invariant_of-self-2
invariant_of-self-2 g c =
    record {
      mask = c.self.invariant.mask;
      area = rw c.grown_in-self-inside.ensures (RectInRange-kept _ _ _ c.self.invariant.area (blank_in_range _ _ c.requires));
      within = c.self.invariant.within ∙ ap (λ (r : Rect). reach (record { rect = r; mask = c.self.inside.mask })) (sym c.in_ok-fill.ensures.rect);
      in_range = c.self.invariant.in_range;
    }
