use Rattle.std.proofs.Common.{List, ℕ, FitsSigned, w64}
use Rattle.std.specs.Prelude.{ℤ, pos, ◌+ℤ◌}
use Rattle.std.proofs.lemmas.Int.{to_z-of_z}
use Rattle.scm_types.specs.declared.line.ChangeType.{ChangeType}
use Rattle.scm_render.specs.Canvas.{Sight}
use Rattle.scm_render.specs.Drawing.{text_picture}
use Rattle.scm_render.proofs.PictureLemmas.{PictureInRange-left, PictureInRange-right}
use Rattle.scm_document.specs.Rows.{line_texts}
use Rattle.scm_document.specs.Texts.{sign_text}
use Rattle.scm_widgets.specs.Pictures.{IdPicture}
use Rattle.scm_render.proofs.StepLemmas.{rest, text-place, InRange-fits}
use Rattle.scm_document.proofs.CallLemmas.{in-turn}
use Rattle.scm_document.proofs.section_line_view.draw_changed_line.Goals as goal

abbrev texts : ChangeType → List ℕ → ℤ → ℤ → Sight → IdPicture
texts t line x y s = text_picture s (x +ℤ pos 4) y (line_texts (sign_text t) line)

pub show_box-requires : goal.show_box-requires
show_box-requires c =
    simp (to_z-of_z, c.ranges.x, c.ranges.y) (PictureInRange-left _ _ c.requires)

pub overflow_add-x : goal.overflow_add-x
overflow_add-x c =
    simp (to_z-of_z, c.ranges.x) (InRange-fits _ (text-place _ _ _ _ (PictureInRange-right _ _ c.requires)).0)

pub draw_line_texts-requires : goal.draw_line_texts-requires
draw_line_texts-requires c =
    let wide : FitsSigned w64 (c.args.x +ℤ pos 4) = InRange-fits _ (text-place _ _ _ _ (PictureInRange-right _ _ c.requires)).0 in
    let toggle = simp (to_z-of_z, c.ranges.x, c.ranges.y) at c.in_ok-show_box.ensures.ok in
    rw c.sign_text.ensures (simp (to_z-of_z, c.ranges.x, c.ranges.y, wide) (rest _ _ _ (texts c.args.change_type c.args.line.now c.args.x c.args.y) toggle c.requires))

pub returns : goal.returns
returns c =
    let fx : FitsSigned w64 c.args.x = c.ranges.x in
    let fy : FitsSigned w64 c.args.y = c.ranges.y in
    let wide : FitsSigned w64 (c.args.x +ℤ pos 4) = InRange-fits _ (text-place _ _ _ _ (PictureInRange-right _ _ c.requires)).0 in
    in-turn _ (texts c.args.change_type c.args.line.now c.args.x c.args.y) _ _ _ (simp to_z-of_z at c.in_ok-show_box.ensures) (rw c.sign_text.ensures at (simp to_z-of_z at c.in_ok-draw_line_texts.ensures))
