use Rattle.std.proofs.Common.{◌∙◌, ap, Bool, List, [], ◌∷◌, ℕ, FitsSigned, w64}
use Rattle.std.specs.Prelude.{ℤ, pos, ◌+ℤ◌}
use Rattle.std.proofs.lemmas.Int.{to_z-of_z}
use Rattle.scm_render.specs.Canvas.{Sight}
use Rattle.scm_render.specs.Drawing.{text_picture}
use Rattle.scm_render.specs.Picture.{followed_by}
use Rattle.scm_render.proofs.PictureLemmas.{PictureInRange-left, PictureInRange-right}
use Rattle.scm_widgets.specs.Boxes.{IdBox}
use Rattle.scm_document.specs.Rows.{MarkRow, is_selected, section_box}
use Rattle.scm_widgets.specs.Pictures.{IdPicture, box_part, highlight}
use Rattle.scm_document.specs.Pictures.{row_picture}
use Rattle.scm_render.proofs.StepLemmas.{sight-after, text-place, InRange-fits}
use Rattle.scm_document.proofs.CallLemmas.{in-turn, begun, covered, then-covered}
use Rattle.scm_document.proofs.section_view.SectionView.draw_mark.Goals as goal

abbrev light : Bool → ℤ → Sight → IdPicture
light b y s = highlight b s y

abbrev box : IdBox → ℤ → ℤ → Sight → IdPicture
box b x y s = box_part b s x y

abbrev text : List ℕ → ℤ → ℤ → Sight → IdPicture
text t x y s = text_picture s (x +ℤ pos 4) y (t ∷ [])

pub cover_rest-requires : goal.cover_rest-requires
unfolding row_picture
cover_rest-requires c =
    rw c.begin_row.ensures.canvas (simp (to_z-of_z, c.ranges.x, c.ranges.y) (PictureInRange-left _ _ c.requires))

pub show_box-requires : goal.show_box-requires
unfolding row_picture
show_box-requires c =
    let same = sight-after _ _ _ c.cover_rest.ensures.new ∙ ap (λ v. v.sight) c.begin_row.ensures.canvas in
    rw (c.section_box-toggle_box.ensures, same) (simp (to_z-of_z, c.ranges.x, c.ranges.y) (PictureInRange-left _ _ (PictureInRange-right _ _ c.requires)))

pub overflow_add-x : goal.overflow_add-x
unfolding row_picture
overflow_add-x c =
    simp (to_z-of_z, c.ranges.x) (InRange-fits _ (text-place _ _ _ _ (PictureInRange-left _ _ (PictureInRange-right _ _ (PictureInRange-right _ _ c.requires)))).0)

pub show_text-requires : goal.show_text-requires
unfolding row_picture
show_text-requires c =
    let own = PictureInRange-left _ _ (PictureInRange-right _ _ (PictureInRange-right _ _ c.requires)) in
    let fits : FitsSigned w64 (c.args.x +ℤ pos 4) = InRange-fits _ (text-place _ _ _ _ own).0 in
    let same = sight-after _ _ _ c.in_ok-show_box.ensures.ok ∙ sight-after _ _ _ c.cover_rest.ensures.new ∙ ap (λ v. v.sight) c.begin_row.ensures.canvas in
    rw same (simp (to_z-of_z, c.ranges.x, c.ranges.y, fits) own)

pub highlight-requires : goal.highlight-requires
unfolding row_picture
highlight-requires c =
    let own = PictureInRange-right _ _ (PictureInRange-right _ _ (PictureInRange-right _ _ c.requires)) in
    let before = sight-after _ _ _ c.in_ok-show_box.ensures.ok ∙ sight-after _ _ _ c.cover_rest.ensures.new ∙ ap (λ v. v.sight) c.begin_row.ensures.canvas in
    rw (sight-after _ _ _ c.in_ok-show_text.ensures.ok ∙ before, c.is_selected.ensures) (simp (to_z-of_z, c.ranges.y) own)

pub returns : goal.returns
unfolding row_picture
returns c =
    let fx : FitsSigned w64 c.args.x = c.ranges.x in
    let fy : FitsSigned w64 c.args.y = c.ranges.y in
    let fits : FitsSigned w64 (c.args.x +ℤ pos 4) = InRange-fits _ (text-place _ _ _ _ (PictureInRange-left _ _ (PictureInRange-right _ _ (PictureInRange-right _ _ c.requires)))).0 in
    let b = section_box c.args.self.now c.args.is_checked in
    let lit = light (is_selected c.args.self.now) c.args.y in
    let more : Sight → IdPicture = λ s. followed_by (text c.args.text.now c.args.x c.args.y s) (lit s) in
    begun (λ s. row_picture (MarkRow (is_selected c.args.self.now) b c.args.text.now) s c.args.x c.args.y) _ _ _ c.begin_row.ensures.canvas (simp to_z-of_z at c.begin_row.ensures.counts)
    (covered _ (λ s. followed_by (box b c.args.x c.args.y s) (more s)) _ _ (simp to_z-of_z at c.cover_rest.ensures.new) c.cover_rest.ensures.counts c.cover_rest.ensures.rect
    (in-turn _ more _ _ _ (rw c.section_box-toggle_box.ensures at (simp to_z-of_z at c.in_ok-show_box.ensures))
    (then-covered _ lit _ (simp to_z-of_z at c.in_ok-show_text.ensures) (rw c.is_selected.ensures at (simp to_z-of_z at c.highlight.ensures.new)) c.highlight.ensures.counts c.highlight.ensures.rect)))
