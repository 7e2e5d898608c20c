use Rattle.std.proofs.Common.{rules, refl, length, FitsSigned, w64}
use Rattle.std.specs.Prelude.{ℤ, pos, ◌+ℤ◌}
use Rattle.std.proofs.lemmas.Int.{to_z-of_z}
use Rattle.scm_render.specs.Canvas.{Sight}
use Rattle.scm_render.proofs.PictureLemmas.{PictureInRange-left, PictureInRange-part}
use Rattle.scm_render.proofs.StepLemmas.{InRange-fits, rest, sight-after, step}
use Rattle.scm_render.proofs.CountLemmas.{counts-then}
use Rattle.scm_document.specs.declared.file_view.FileView.{FileView}
use Rattle.scm_document.specs.Rows.{shown_file, file_rows}
use Rattle.scm_widgets.specs.Pictures.{IdPicture}
use Rattle.scm_document.specs.Pictures.{file_picture, pinned_picture, one_file_picture}
use Rattle.scm_document.proofs.SectionsLemmas.{file-fits}
use Rattle.scm_document.proofs.commit_view.draw_file.Goals as goal

abbrev pinned : FileView → ℤ → ℤ → Sight → IdPicture
pinned v x y s = pinned_picture (shown_file v) s x y

pub row_below-below-requires-clause-y : goal.row_below-below-requires-clause-y
unfolding one_file_picture
row_below-below-requires-clause-y c =
    simp (to_z-of_z, c.ranges.y) (file-fits (shown_file c.args.file.now) _ _ _ (PictureInRange-part _ _ (PictureInRange-left _ _ c.requires))).next

pub row_below-below-requires-clause-end : goal.row_below-below-requires-clause-end
unfolding one_file_picture
row_below-below-requires-clause-end c =
    simp (to_z-of_z, c.ranges.y) (file-fits (shown_file c.args.file.now) _ _ _ (PictureInRange-part _ _ (PictureInRange-left _ _ c.requires))).end

pub rest_mask-rows-requires-clause-x : goal.rest_mask-rows-requires-clause-x
unfolding one_file_picture
rest_mask-rows-requires-clause-x c =
    simp (to_z-of_z, c.ranges.x) (file-fits (shown_file c.args.file.now) _ _ _ (PictureInRange-part _ _ (PictureInRange-left _ _ c.requires))).left

pub rest_mask-rows-requires-clause-y : goal.rest_mask-rows-requires-clause-y
unfolding one_file_picture
rest_mask-rows-requires-clause-y c =
    simp (to_z-of_z, c.ranges.y) (file-fits (shown_file c.args.file.now) _ _ _ (PictureInRange-part _ _ (PictureInRange-left _ _ c.requires))).top

pub draw_under-requires-clause-picture : goal.draw_under-requires-clause-picture
unfolding one_file_picture file_picture shown_file
draw_under-requires-clause-picture c =
    rw c.rest_mask-rows.ensures.mask (simp (to_z-of_z, c.ranges.x, c.ranges.y) (PictureInRange-left _ _ c.requires))

pub draw_pinned-requires-clause-below : goal.draw_pinned-requires-clause-below
unfolding one_file_picture
draw_pinned-requires-clause-below c =
    let f = shown_file c.args.file.now in
    let fits = file-fits f _ _ _ (PictureInRange-part _ _ (PictureInRange-left _ _ c.requires)) in
    let fb : FitsSigned w64 (c.args.y +ℤ pos (length (file_rows f))) = InRange-fits _ fits.end in
    let below = simp (to_z-of_z, c.ranges.y, fb) at c.row_below-below.ensures in
    rw below (simp (to_z-of_z, c.ranges.y, fb) refl)

pub draw_pinned-requires-clause-picture : goal.draw_pinned-requires-clause-picture
unfolding one_file_picture file_picture shown_file
draw_pinned-requires-clause-picture c =
    let drawn = simp (to_z-of_z, c.ranges.x, c.ranges.y) at (rw c.rest_mask-rows.ensures.mask at c.in_ok-draw_under.ensures.ok) in
    simp (to_z-of_z, c.ranges.x, c.ranges.y) (rest _ _ _ (pinned c.args.file.now c.args.x c.args.y) drawn c.requires)

pub returns-clause-draws : goal.returns-clause-draws
unfolding one_file_picture file_picture shown_file
returns-clause-draws c =
    let fx : FitsSigned w64 c.args.x = c.ranges.x in
    let fy : FitsSigned w64 c.args.y = c.ranges.y in
    let drawn = simp to_z-of_z at (rw c.rest_mask-rows.ensures.mask at c.in_ok-draw_under.ensures.ok) in
    let counted = simp to_z-of_z at c.in_ok-draw_under.ensures.counts in
    record {
      ok = step _ _ _ _ (pinned c.args.file.now c.args.x c.args.y) drawn (simp to_z-of_z at c.in_ok-draw_pinned.ensures.ok);
      counts = counts-then _ _ _ _ _ counted (rw (sight-after _ _ _ drawn) at (simp to_z-of_z at c.in_ok-draw_pinned.ensures.counts));
      rect = search rules;
      err = search rules;
    }

pub returns-clause-below : goal.returns-clause-below
unfolding one_file_picture
returns-clause-below c =
    let f = shown_file c.args.file.now in
    let fits = file-fits f _ _ _ (PictureInRange-part _ _ (PictureInRange-left _ _ c.requires)) in
    let fb : FitsSigned w64 (c.args.y +ℤ pos (length (file_rows f))) = InRange-fits _ fits.end in
    let below = simp (to_z-of_z, c.ranges.y, fb) at c.row_below-below.ensures in
    rw below (simp (to_z-of_z, c.ranges.y, fb) refl)
