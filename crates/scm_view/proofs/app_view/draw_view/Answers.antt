use Rattle.std.proofs.Common.{rules, ◌≡◌, ◌∙◌, refl, ap, FitsSigned, w64}
use Rattle.std.specs.Prelude.{pos, ◌+ℤ◌}
use Rattle.std.proofs.lemmas.Int.{to_z-of_z}
use Rattle.scm_cells.specs.Mask.{apply_of}
use Rattle.scm_render.specs.Picture.{box_rect}
use Rattle.scm_render.specs.Canvas.{under}
use Rattle.scm_render.proofs.PictureLemmas.{PictureInRange-part, RectInRange-box_rect}
use Rattle.scm_render.proofs.CanvasLemmas.{with_picture-masked}
use Rattle.scm_document.specs.ViewColumns.{view_mask, view_picture, next_view}
use Rattle.scm_view.proofs.AppLemmas.{next-fits}
use Rattle.scm_view.proofs.app_view.draw_view.Goals as goal

pub apply-requires-clause-rect : goal.apply-requires-clause-rect
apply-requires-clause-rect c =
    let s = c.args.viewport.now.canvas.sight in
    let mask = simp (to_z-of_z, c.ranges.x) at c.view_mask-mask.ensures.mask in
    let seen : c.swap_mask-outer.new.self.canvas.sight ≡ under (view_mask s c.args.x c.args.width) s = ap (λ v. v.sight) c.swap_mask-outer.ensures.new ∙ ap (λ m. under m s) mask in
    let drawn = simp (to_z-of_z, c.ranges.x, seen) at c.in_ok-drawn.ensures.drawn in
    rw drawn (RectInRange-box_rect _ (PictureInRange-part _ _ c.requires.picture))

pub strict_add_unsigned-requires : goal.strict_add_unsigned-requires
strict_add_unsigned-requires c =
    let fx : FitsSigned w64 c.args.x = c.ranges.x in
    let s = c.args.viewport.now.canvas.sight in
    let mask = simp to_z-of_z at c.view_mask-mask.ensures.mask in
    let seen : c.swap_mask-outer.new.self.canvas.sight ≡ under (view_mask s c.args.x c.args.width) s = ap (λ t. t.sight) c.swap_mask-outer.ensures.new ∙ ap (λ m. under m s) mask in
    let drawn = simp (to_z-of_z, c.ranges.x, seen) at c.in_ok-drawn.ensures.drawn in
    let cut = rw (mask, drawn) at c.apply.ensures.fields in
    let fits = next-fits c.args.view.now s c.args.x c.args.width fx c.view_mask-mask.ensures.end (PictureInRange-part _ _ c.requires.picture) in
    rw cut (simp to_z-of_z fits.0)

pub overflow_add-result : goal.overflow_add-result
overflow_add-result c =
    let fx : FitsSigned w64 c.args.x = c.ranges.x in
    let s = c.args.viewport.now.canvas.sight in
    let v = c.args.view.now in
    let mask = simp to_z-of_z at c.view_mask-mask.ensures.mask in
    let seen : c.swap_mask-outer.new.self.canvas.sight ≡ under (view_mask s c.args.x c.args.width) s = ap (λ t. t.sight) c.swap_mask-outer.ensures.new ∙ ap (λ m. under m s) mask in
    let drawn = simp (to_z-of_z, c.ranges.x, seen) at c.in_ok-drawn.ensures.drawn in
    let cut = rw (mask, drawn) at c.apply.ensures.fields in
    let fits = next-fits v s c.args.x c.args.width fx c.view_mask-mask.ensures.end (PictureInRange-part _ _ c.requires.picture) in
    let sum = simp to_z-of_z at (rw cut at c.strict_add_unsigned.ensures) in
    let end : FitsSigned w64 (c.args.x +ℤ pos (apply_of (view_mask s c.args.x c.args.width) (box_rect (view_picture v s c.args.x c.args.width))).width) = fits.0 in
    rw sum (simp to_z-of_z fits.1)

pub returns-clause-draws : goal.returns-clause-draws
returns-clause-draws c =
    let s = c.args.viewport.now.canvas.sight in
    let mask = simp (to_z-of_z, c.ranges.x) at c.view_mask-mask.ensures.mask in
    let seen : c.swap_mask-outer.new.self.canvas.sight ≡ under (view_mask s c.args.x c.args.width) s = ap (λ t. t.sight) c.swap_mask-outer.ensures.new ∙ ap (λ m. under m s) mask in
    record {
      ok =
          let drawn = simp (to_z-of_z, c.ranges.x, seen) at c.in_ok-drawn.ensures.draws.ok in
          with_picture-masked _ c.swap_mask-outer.new.self.canvas c.draw_component.new.self.canvas _ c.view_mask-mask.result _ c.swap_mask-outer.ensures.new drawn (rw c.swap_mask-outer.ensures.old at c.swap_mask.ensures.new);
      counts =
          let drawn = rw c.swap_mask-outer.ensures.counts at (rw seen at c.in_ok-drawn.ensures.draws.counts) in
          c.swap_mask.ensures.counts ∙ drawn;
      rect = search rules;
      err = search rules;
    }

pub returns-clause-next : goal.returns-clause-next
returns-clause-next c =
    let fx : FitsSigned w64 c.args.x = c.ranges.x in
    let s = c.args.viewport.now.canvas.sight in
    let v = c.args.view.now in
    let mask = simp to_z-of_z at c.view_mask-mask.ensures.mask in
    let seen : c.swap_mask-outer.new.self.canvas.sight ≡ under (view_mask s c.args.x c.args.width) s = ap (λ t. t.sight) c.swap_mask-outer.ensures.new ∙ ap (λ m. under m s) mask in
    let drawn = simp (to_z-of_z, c.ranges.x, seen) at c.in_ok-drawn.ensures.drawn in
    let cut = rw (mask, drawn) at c.apply.ensures.fields in
    let fits = next-fits v s c.args.x c.args.width fx c.view_mask-mask.ensures.end (PictureInRange-part _ _ c.requires.picture) in
    let sum = simp to_z-of_z at (rw cut at c.strict_add_unsigned.ensures) in
    let end : FitsSigned w64 (c.args.x +ℤ pos (apply_of (view_mask s c.args.x c.args.width) (box_rect (view_picture v s c.args.x c.args.width))).width) = fits.0 in
    let next : FitsSigned w64 (next_view v s c.args.x c.args.width) = fits.1 in
    rw sum (simp to_z-of_z refl)
