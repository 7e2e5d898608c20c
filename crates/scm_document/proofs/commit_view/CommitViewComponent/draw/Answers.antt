use Rattle.std.proofs.Common.{List, ℕ, map, FitsSigned, w64}
use Rattle.std.specs.Prelude.{ℤ, pos, ◌+ℤ◌}
use Rattle.std.proofs.lemmas.Int.{to_z-of_z}
use Rattle.scm_render.specs.Canvas.{Sight}
use Rattle.scm_render.proofs.PictureLemmas.{PictureInRange-left}
use Rattle.scm_rows.specs.Heights.{message_height}
use Rattle.scm_document.specs.Rows.{ShownFile, shown_file}
use Rattle.scm_widgets.specs.Pictures.{IdPicture}
use Rattle.scm_document.specs.Pictures.{commit_message_picture, body_picture, document_picture, commit_picture}
use Rattle.scm_render.proofs.StepLemmas.{rest}
use Rattle.scm_document.proofs.CallLemmas.{after}
use Rattle.scm_document.specs.Counts.{body_counts, document_counts}
use Rattle.scm_document.proofs.commit_view.CommitViewComponent.draw.Goals as goal

abbrev body : List ShownFile → ℕ → ℤ → ℤ → Sight → IdPicture
body fs n x y s = body_picture fs s x y (y +ℤ pos n)

pub draw_part-requires : goal.draw_part-requires
unfolding commit_picture document_picture commit_message_picture
draw_part-requires c =
    simp (to_z-of_z, c.ranges.x, c.ranges.y) (PictureInRange-left _ _ c.requires)

pub draw_body-requires : goal.draw_body-requires
unfolding commit_picture document_picture commit_message_picture
draw_body-requires c =
    let v = c.args.self.now in
    let message = simp (to_z-of_z, c.ranges.x, c.ranges.y) at c.in_ok-draw_part.ensures.ok in
    rw (c.as_slice-files.ensures, c.height-height.ensures) (simp (to_z-of_z, c.ranges.x, c.ranges.y) (rest _ _ _ (body (map shown_file v.file_views) (message_height v.commit_message_view.commit.now.message) c.args.x c.args.y) message c.requires))

pub returns : goal.returns
unfolding commit_picture document_picture commit_message_picture document_counts
returns c =
    let fx : FitsSigned w64 c.args.x = c.ranges.x in
    let fy : FitsSigned w64 c.args.y = c.ranges.y in
    let files = map shown_file c.args.self.now.file_views in
    let n = message_height c.args.self.now.commit_message_view.commit.now.message in
    after _ (body files n c.args.x c.args.y) _ (λ s. body_counts files s c.args.y (c.args.y +ℤ pos n)) (simp to_z-of_z at c.in_ok-draw_part.ensures)
    (rw (c.as_slice-files.ensures, c.height-height.ensures) at (simp to_z-of_z at c.draw_body.ensures))
