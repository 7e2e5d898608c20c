use Rattle.std.proofs.Common.{◌∙◌, FitsSigned, w64, List, [], ◌∷◌, ℕ}
use Rattle.std.specs.Prelude.{ℤ, pos, ◌+ℤ◌}
use Rattle.std.proofs.lemmas.Int.{to_z-of_z}
use Rattle.scm_render.specs.Canvas.{Sight}
use Rattle.scm_render.specs.Drawing.{text_picture}
use Rattle.scm_render.specs.Picture.{followed_by}
use Rattle.scm_render.proofs.PictureLemmas.{PictureInRange-left, PictureInRange-right}
use Rattle.scm_widgets.specs.Boxes.{IdBox}
use Rattle.scm_document.specs.Titles.{title_text}
use Rattle.scm_widgets.specs.Pictures.{IdPicture, box_part}
use Rattle.scm_document.specs.Pictures.{title_picture}
use Rattle.scm_render.proofs.StepLemmas.{sight-after, text-place, InRange-fits}
use Rattle.scm_document.proofs.CallLemmas.{in-turn}
use Rattle.scm_document.proofs.heading.draw_before_fold.Goals as goal

abbrev box : IdBox → ℤ → ℤ → Sight → IdPicture
box b x y s = box_part b s x y

abbrev text : List ℕ → ℤ → ℤ → Sight → IdPicture
text t x y s = text_picture s (x +ℤ pos 4) y (t ∷ [])

pub show_blank-requires : goal.show_blank-requires
unfolding title_picture
show_blank-requires c =
    simp (to_z-of_z, c.ranges.x, c.ranges.y) (PictureInRange-left _ _ c.requires)

pub show_box-requires : goal.show_box-requires
unfolding title_picture
show_box-requires c =
    let same = sight-after _ _ _ c.in_ok-show_blank.ensures.ok in
    rw same (simp (to_z-of_z, c.ranges.x, c.ranges.y) (PictureInRange-left _ _ (PictureInRange-right _ _ c.requires)))

pub overflow_add-x : goal.overflow_add-x
unfolding title_picture
overflow_add-x c =
    simp (to_z-of_z, c.ranges.x) (InRange-fits _ (text-place _ _ _ _ (PictureInRange-right _ _ (PictureInRange-right _ _ c.requires))).0)

pub show_title-requires : goal.show_title-requires
unfolding title_picture
show_title-requires c =
    let own = PictureInRange-right _ _ (PictureInRange-right _ _ c.requires) in
    let fits : FitsSigned w64 (c.args.x +ℤ pos 4) = InRange-fits _ (text-place _ _ _ _ own).0 in
    let same = sight-after _ _ _ c.in_ok-show_box.ensures.ok ∙ sight-after _ _ _ c.in_ok-show_blank.ensures.ok in
    rw same (simp (to_z-of_z, c.ranges.x, c.ranges.y, fits) own)

pub returns : goal.returns
unfolding title_picture
returns c =
    let fx : FitsSigned w64 c.args.x = c.ranges.x in
    let fy : FitsSigned w64 c.args.y = c.ranges.y in
    let wide : FitsSigned w64 (c.args.x +ℤ pos 4) = InRange-fits _ (text-place _ _ _ _ (PictureInRange-right _ _ (PictureInRange-right _ _ c.requires))).0 in
    let title = text (title_text c.args.title.now) c.args.x c.args.y in
    in-turn _ (λ s. followed_by (box c.args.toggle_box.now c.args.x c.args.y s) (title s)) _ _ _ (simp to_z-of_z at c.in_ok-show_blank.ensures)
    (in-turn _ title _ _ _ (simp to_z-of_z at c.in_ok-show_box.ensures) (simp to_z-of_z at c.in_ok-show_title.ensures))
