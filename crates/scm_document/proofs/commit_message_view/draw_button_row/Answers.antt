use Rattle.std.proofs.Common.{sym, ℕ, List, FitsSigned, w64}
use Rattle.std.specs.Prelude.{ℤ}
use Rattle.std.proofs.lemmas.Int.{to_z-of_z}
use Rattle.scm_render.specs.Canvas.{Sight}
use Rattle.scm_render.proofs.PictureLemmas.{PictureInRange-left}
use Rattle.scm_render.proofs.StepLemmas.{rest}
use Rattle.scm_widgets.specs.Pictures.{IdPicture}
use Rattle.scm_document.specs.Pictures.{beside_button, button_row_picture}
use Rattle.scm_document.specs.Texts.{message_text}
use Rattle.scm_document.proofs.CallLemmas.{begun, in-turn}
use Rattle.scm_document.proofs.commit_message_view.draw_button_row.Goals as goal

abbrev beside : List ℕ → ℤ → ℤ → Sight → IdPicture
beside t x y s = beside_button t s x y

pub show_button-requires : goal.show_button-requires
unfolding button_row_picture
show_button-requires c =
    rw (c.edit_button-button.ensures, c.begin_row.ensures.canvas) (simp (to_z-of_z, c.ranges.x, c.ranges.y) (PictureInRange-left _ _ c.requires))

pub draw_beside_button-requires : goal.draw_beside_button-requires
unfolding button_row_picture
draw_beside_button-requires c =
    let button = rw c.begin_row.ensures.canvas at (simp (to_z-of_z, c.ranges.x, c.ranges.y) at (rw c.edit_button-button.ensures at c.in_ok-show_button.ensures.ok)) in
    let text = sym c.message_text-text.ensures in
    let all = rw text at c.requires in
    simp (to_z-of_z, c.ranges.x, c.ranges.y) (rest _ _ _ (beside c.message_text-text.result.now c.args.x c.args.y) button all)

pub returns : goal.returns
unfolding button_row_picture
returns c =
    let fx : FitsSigned w64 c.args.x = c.ranges.x in
    let fy : FitsSigned w64 c.args.y = c.ranges.y in
    let button = simp to_z-of_z at (rw c.edit_button-button.ensures at c.in_ok-show_button.ensures) in
    let text = rw c.message_text-text.ensures at (simp to_z-of_z at c.in_ok-draw_beside_button.ensures) in
    begun (λ s. button_row_picture c.args.commit_idx c.args.message.now s c.args.x c.args.y) _ _ _ c.begin_row.ensures.canvas (simp to_z-of_z at c.begin_row.ensures.counts)
    (in-turn _ (beside (message_text c.args.message.now) c.args.x c.args.y) _ _ _ button text)
