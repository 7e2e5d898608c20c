use Rattle.std.proofs.Common.{rules, ◌∙◌, ap, ℕ, List, FitsSigned, w64, arith}
use Rattle.std.specs.Prelude.{ℤ, pos, ◌+ℤ◌}
use Rattle.std.proofs.lemmas.Int.{to_z-of_z}
use Rattle.scm_cells.specs.Rect.{InRange}
use Rattle.scm_cells.proofs.RectLemmas.{places}
use Rattle.scm_render.specs.Canvas.{Sight}
use Rattle.scm_render.specs.Picture.{PictureInRange, followed_by}
use Rattle.scm_render.proofs.DrawLemmas.{blank_in_range}
use Rattle.scm_render.proofs.PictureLemmas.{PictureInRange-left, PictureInRange-right}
use Rattle.scm_render.proofs.StepLemmas.{three, sight-after, InRange-fits}
use Rattle.scm_widgets.specs.declared.ids.ComponentId.{ComponentId}
use Rattle.scm_widgets.specs.Pictures.{IdPicture, rest_of_row, blank_rest}
use Rattle.scm_document.specs.Pictures.{button_row_picture, message_picture}
use Rattle.scm_document.proofs.CountLemmas.{message-counted}
use Rattle.scm_document.proofs.commit_message_view.draw_message.Goals as goal

abbrev middle : ℕ → List ℕ → ℤ → ℤ → Sight → IdPicture
middle commit message x y s = button_row_picture commit message s x (y +ℤ pos 1)

abbrev lower : ℤ → ℤ → Sight → IdPicture
lower x y s = blank_rest s x (y +ℤ pos 2)

-- the rows of a message that is in range, as numbers
one-more : (y : ℤ) → InRange y → FitsSigned w64 (y +ℤ pos 1)
one-more y r = omega (arith, places)

first-row : (s : Sight) (x y : ℤ) (a : IdPicture) → PictureInRange (followed_by (blank_rest s x y) a) → InRange y
first-row s x y a r = (blank_in_range {K = ComponentId} s (rest_of_row s x y) (PictureInRange-left _ _ r)).y

last-row : (s : Sight) (x y : ℤ) (a b : IdPicture) → PictureInRange (followed_by a (followed_by b (blank_rest s x y))) → InRange y
last-row s x y a b r = (blank_in_range {K = ComponentId} s (rest_of_row s x y) (PictureInRange-right _ _ (PictureInRange-right _ _ r))).y

pub overflow_add-row : goal.overflow_add-row
unfolding message_picture
overflow_add-row c =
    simp (to_z-of_z, c.ranges.y) (one-more _ (first-row _ _ _ _ c.requires))

pub overflow_add-below : goal.overflow_add-below
unfolding message_picture
overflow_add-below c =
    simp (to_z-of_z, c.ranges.y) (InRange-fits _ (last-row _ _ _ _ _ c.requires))

pub show_blank_rest-requires : goal.show_blank_rest-requires
unfolding message_picture
show_blank_rest-requires c =
    rw c.begin_row.ensures.canvas (simp (to_z-of_z, c.ranges.x, c.ranges.y) (PictureInRange-left _ _ c.requires))

pub draw_button_row-requires : goal.draw_button_row-requires
unfolding message_picture
draw_button_row-requires c =
    let fr : FitsSigned w64 (c.args.y +ℤ pos 1) = one-more _ (first-row _ _ _ _ c.requires) in
    let same = sight-after _ _ _ c.in_ok-show_blank_rest.ensures.ok ∙ ap (λ v. v.sight) c.begin_row.ensures.canvas in
    rw same (simp (to_z-of_z, c.ranges.x, c.ranges.y, fr) (PictureInRange-left _ _ (PictureInRange-right _ _ c.requires)))

pub show_blank_rest-requires-2 : goal.show_blank_rest-requires-2
unfolding message_picture
show_blank_rest-requires-2 c =
    let fb : FitsSigned w64 (c.args.y +ℤ pos 2) = InRange-fits _ (last-row _ _ _ _ _ c.requires) in
    let before = sight-after _ _ _ c.in_ok-show_blank_rest.ensures.ok ∙ ap (λ v. v.sight) c.begin_row.ensures.canvas in
    let same = ap (λ v. v.sight) c.begin_row-2.ensures.canvas ∙ sight-after _ _ _ c.in_ok-draw_button_row.ensures.ok ∙ before in
    rw same (simp (to_z-of_z, c.ranges.x, c.ranges.y, fb) (PictureInRange-right _ _ (PictureInRange-right _ _ c.requires)))

pub returns : goal.returns
unfolding message_picture
returns c =
    let fx : FitsSigned w64 c.args.x = c.ranges.x in
    let fy : FitsSigned w64 c.args.y = c.ranges.y in
    let fr : FitsSigned w64 (c.args.y +ℤ pos 1) = one-more _ (first-row _ _ _ _ c.requires) in
    let fb : FitsSigned w64 (c.args.y +ℤ pos 2) = InRange-fits _ (last-row _ _ _ _ _ c.requires) in
    let begun = ap (λ v. v.sight.rect) c.begin_row.ensures.canvas in
    let blanked = c.in_ok-show_blank_rest.ensures.rect ∙ begun in
    let named = c.in_ok-draw_button_row.ensures.rect ∙ blanked in
    let again = ap (λ v. v.sight.rect) c.begin_row-2.ensures.canvas ∙ named in
    record {
      ok =
          let upper = rw c.begin_row.ensures.canvas at (simp to_z-of_z at c.in_ok-show_blank_rest.ensures.ok) in
          let button = simp to_z-of_z at c.in_ok-draw_button_row.ensures.ok in
          let last = rw c.begin_row-2.ensures.canvas at (simp to_z-of_z at c.in_ok-show_blank_rest-2.ensures.ok) in
          three _ _ _ _ _ (middle c.args.commit_idx c.args.message.now c.args.x c.args.y) (lower c.args.x c.args.y) upper button last;
      counts =
          let first = simp to_z-of_z at c.begin_row.ensures.counts in
          let upper = rw begun at (simp to_z-of_z at c.in_ok-show_blank_rest.ensures.counts) in
          let button = rw blanked at (simp to_z-of_z at c.in_ok-draw_button_row.ensures.counts) in
          let second = rw named at (simp to_z-of_z at c.begin_row-2.ensures.counts) in
          let last = rw again at (simp to_z-of_z at c.in_ok-show_blank_rest-2.ensures.counts) in
          message-counted _ _ _ _ _ _ _ c.args.y c.args.message.now first upper button second last;
      rect = search rules;
      err = search rules;
    }
