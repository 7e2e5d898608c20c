use Rattle.std.proofs.Common.{List, ℕ, [], ◌∷◌, FitsSigned, w64}
use Rattle.std.specs.Prelude.{ℤ, pos, ◌+ℤ◌}
use Rattle.std.proofs.lemmas.Int.{to_z-of_z}
use Rattle.scm_render.specs.Canvas.{Sight}
use Rattle.scm_render.specs.Drawing.{text_picture}
use Rattle.scm_render.proofs.PictureLemmas.{PictureInRange-left, PictureInRange-right}
use Rattle.scm_widgets.specs.Pictures.{IdPicture}
use Rattle.scm_document.specs.Pictures.{beside_button}
use Rattle.scm_render.proofs.StepLemmas.{rest, span-place, text-place, InRange-fits}
use Rattle.scm_document.proofs.CallLemmas.{in-turn}
use Rattle.scm_document.proofs.commit_message_view.draw_beside_button.Goals as goal

abbrev text : List ℕ → ℤ → ℤ → Sight → IdPicture
text t x y s = text_picture s (x +ℤ pos 19) y (t ∷ [])

pub overflow_add-x : goal.overflow_add-x
unfolding beside_button
overflow_add-x c =
    simp (to_z-of_z, c.ranges.x) (InRange-fits _ (span-place _ _ _ _ (PictureInRange-left _ _ c.requires)).0)

pub show_span-requires : goal.show_span-requires
unfolding beside_button
show_span-requires c =
    let f15 : FitsSigned w64 (c.args.x +ℤ pos 15) = InRange-fits _ (span-place _ _ _ _ (PictureInRange-left _ _ c.requires)).0 in
    rw c.divider_text.ensures (simp (to_z-of_z, c.ranges.x, c.ranges.y, f15) (PictureInRange-left _ _ c.requires))

pub overflow_add-x-2 : goal.overflow_add-x-2
unfolding beside_button
overflow_add-x-2 c =
    simp (to_z-of_z, c.ranges.x) (InRange-fits _ (text-place _ _ _ _ (PictureInRange-right _ _ c.requires)).0)

pub show_text-requires : goal.show_text-requires
unfolding beside_button
show_text-requires c =
    let f15 : FitsSigned w64 (c.args.x +ℤ pos 15) = InRange-fits _ (span-place _ _ _ _ (PictureInRange-left _ _ c.requires)).0 in
    let f19 : FitsSigned w64 (c.args.x +ℤ pos 19) = InRange-fits _ (text-place _ _ _ _ (PictureInRange-right _ _ c.requires)).0 in
    let drawn = rw c.divider_text.ensures at (simp (to_z-of_z, c.ranges.x, c.ranges.y, f15) at c.in_ok-show_span.ensures.ok) in
    simp (to_z-of_z, c.ranges.x, c.ranges.y, f19) (rest _ _ _ (text c.args.text.now c.args.x c.args.y) drawn c.requires)

pub returns : goal.returns
unfolding beside_button
returns c =
    let fx : FitsSigned w64 c.args.x = c.ranges.x in
    let fy : FitsSigned w64 c.args.y = c.ranges.y in
    let f15 : FitsSigned w64 (c.args.x +ℤ pos 15) = InRange-fits _ (span-place _ _ _ _ (PictureInRange-left _ _ c.requires)).0 in
    let f19 : FitsSigned w64 (c.args.x +ℤ pos 19) = InRange-fits _ (text-place _ _ _ _ (PictureInRange-right _ _ c.requires)).0 in
    in-turn _ (text c.args.text.now c.args.x c.args.y) _ _ _ (rw c.divider_text.ensures at (simp to_z-of_z at c.in_ok-show_span.ensures)) (simp to_z-of_z at c.in_ok-show_text.ensures)
