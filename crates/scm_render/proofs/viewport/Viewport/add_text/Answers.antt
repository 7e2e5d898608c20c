use Rattle.scm_cells.specs.declared.rect.Rect.{Rect}
use Rattle.scm_render.specs.Kept.{kept_items}
use Rattle.scm_render.specs.Canvas.{kept_area}
use Rattle.scm_render.proofs.CanvasLemmas.{RectInRange-kept}
use Rattle.std.proofs.Common.{rules, ◌∙◌, sym, ap, refl, FitsSigned, w64, [], ◌∷◌}
use Rattle.std.proofs.lemmas.Int.{to_z-of_z}
use Rattle.scm_cells.specs.Rect.{RectInRange}
use Rattle.scm_render.specs.Drawing.{reach}
use Rattle.scm_render.proofs.DrawLemmas.{with_picture-span, span_in_range}
use Rattle.scm_render.proofs.PaintLemmas.{with_puts-counts}
use Rattle.scm_render.proofs.CountLemmas.{added-none}
use Rattle.scm_render.proofs.viewport.Viewport.add_text.Goals as goal

pub put_text-requires-clause-x : goal.put_text-requires-clause-x
put_text-requires-clause-x g c =
    let fx : FitsSigned w64 c.args.x = c.ranges.x in
    simp to_z-of_z (span_in_range _ _ _ _ c.requires.picture).x

pub grown_in-self-inside-requires-clause-rect : goal.grown_in-self-inside-requires-clause-rect
grown_in-self-inside-requires-clause-rect g c =
    let fx : FitsSigned w64 c.args.x = c.ranges.x in
    let fy : FitsSigned w64 c.args.y = c.ranges.y in
    rw (c.row_rect-drawn.ensures, c.in_ok-columns.ensures.columns) (simp to_z-of_z (span_in_range _ _ _ _ c.requires.picture))

pub returns-clause-drawn : goal.returns-clause-drawn
returns-clause-drawn g c =
    let fx : FitsSigned w64 c.args.x = c.ranges.x in
    let fy : FitsSigned w64 c.args.y = c.ranges.y in
    rw (c.row_rect-drawn.ensures, c.in_ok-columns.ensures.columns) (simp to_z-of_z refl)

pub returns-clause-draws : goal.returns-clause-draws
returns-clause-draws g c =
    let fx : FitsSigned w64 c.args.x = c.ranges.x in
    let fy : FitsSigned w64 c.args.y = c.ranges.y in
    let drawn = simp to_z-of_z at c.in_ok-columns.ensures.ok in
    record {
      ok =
          rw (sym c.self.view_is)
          (with_picture-span _ _ _ c.args.within c.args.x c.args.y c.args.text.now
          (c.requires.within ∙ ap (λ v. reach v.canvas.sight) (sym c.self.view_is))
          drawn refl
          (c.grown_in-self-inside.ensures ∙ ap (λ r. kept_area (kept_items c.self.inside.boxes) c.self.inside.area (r ∷ [])) (returns-clause-drawn g c))
          refl);
      counts = with_puts-counts _ _ _ c.in_ok-columns.ensures.ok ∙ ap (λ v. v.counts) c.self.view_is ∙ sym (added-none _);
      rect = search rules;
      err = search rules;
    }

pub invariant_of-self-2 : goal.invariant_of-self-2
invariant_of-self-2 g c =
    let fx : FitsSigned w64 c.args.x = c.ranges.x in
    let fy : FitsSigned w64 c.args.y = c.ranges.y in
    let drawn : RectInRange c.row_rect-drawn.result = rw (c.row_rect-drawn.ensures, c.in_ok-columns.ensures.columns) (simp to_z-of_z (span_in_range _ _ _ _ c.requires.picture)) in
    record {
      mask = c.self.invariant.mask;
      area = rw c.grown_in-self-inside.ensures (RectInRange-kept _ _ _ c.self.invariant.area drawn);
      within = c.self.invariant.within ∙ ap (λ (r : Rect). reach (record { rect = r; mask = c.self.inside.mask })) (sym c.in_ok-columns.ensures.rect);
      in_range = c.self.invariant.in_range;
    }
