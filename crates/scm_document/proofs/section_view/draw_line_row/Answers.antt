use Rattle.std.proofs.Common.{FitsSigned, w64, ◌+ℤ◌, pos}
use Rattle.std.specs.Prelude.{ℤ}
use Rattle.std.proofs.lemmas.Int.{to_z-of_z}
use Rattle.scm_render.specs.Picture.{part}
use Rattle.scm_render.specs.Canvas.{Sight}
use Rattle.scm_render.proofs.PictureLemmas.{PictureInRange-left, PictureInRange-right}
use Rattle.scm_render.proofs.StepLemmas.{InRange-fits, sight-after}
use Rattle.scm_document.specs.declared.section_line_view.SectionLineView.{SectionLineView}
use Rattle.scm_widgets.specs.Counts.{drawn}
use Rattle.scm_document.specs.Counts.{line_calls}
use Rattle.scm_document.specs.Rows.{line_id}
use Rattle.scm_widgets.specs.Pictures.{IdPicture}
use Rattle.scm_document.specs.Pictures.{line_picture}
use Rattle.scm_document.proofs.RowsLemmas.{view_row-picture, view-place}
use Rattle.scm_document.proofs.CountLemmas.{view_row-counts}
use Rattle.scm_document.proofs.CallLemmas.{covered}
use Rattle.scm_document.proofs.section_view.draw_line_row.Goals as goal

abbrev line : SectionLineView → ℤ → ℤ → Sight → IdPicture
line w x y s = part (line_id w.line_key) (line_picture w s (x +ℤ pos 2) y)

pub cover_rest-requires : goal.cover_rest-requires
cover_rest-requires c =
    simp (to_z-of_z, c.ranges.x, c.ranges.y) (PictureInRange-left _ _ (rw (view_row-picture c.args.view.now c.args.viewport.now.canvas.sight c.args.x c.args.y) at c.requires))

pub overflow_add-x : goal.overflow_add-x
overflow_add-x c =
    simp (to_z-of_z, c.ranges.x) (InRange-fits _ (view-place c.args.view.now _ _ _ c.requires))

pub draw_part-requires : goal.draw_part-requires
draw_part-requires c =
    let wide : FitsSigned w64 (c.args.x +ℤ pos 2) = InRange-fits _ (view-place c.args.view.now _ _ _ c.requires) in
    let all = rw (view_row-picture c.args.view.now c.args.viewport.now.canvas.sight c.args.x c.args.y) at c.requires in
    rw (sight-after _ _ _ c.cover_rest.ensures.new) (simp (to_z-of_z, c.ranges.x, c.ranges.y, wide) (PictureInRange-right _ _ all))

pub returns : goal.returns
returns c =
    let fx : FitsSigned w64 c.args.x = c.ranges.x in
    let fy : FitsSigned w64 c.args.y = c.ranges.y in
    let wide : FitsSigned w64 (c.args.x +ℤ pos 2) = InRange-fits _ (view-place c.args.view.now _ _ _ c.requires) in
    let v = c.args.view.now in
    let s = c.args.viewport.now.canvas.sight in
    rw (view_row-picture v s c.args.x c.args.y, view_row-counts v s.rect c.args.y)
    (covered _ (line v c.args.x c.args.y) c.args.y (drawn 1 (line_calls v.inner)) (simp to_z-of_z at c.cover_rest.ensures.new) c.cover_rest.ensures.counts c.cover_rest.ensures.rect
    (simp to_z-of_z at c.in_ok-draw_part.ensures))
