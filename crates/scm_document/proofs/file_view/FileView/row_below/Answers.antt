use Rattle.std.proofs.Common.{◌≡◌, ◌∙◌, sym, refl, length, FitsSigned, w64, arith}
use Rattle.std.specs.Prelude.{pos, ◌+ℤ◌}
use Rattle.std.proofs.lemmas.Int.{to_z-of_z}
use Rattle.scm_cells.proofs.RectLemmas.{places}
use Rattle.scm_document.specs.Rows.{shown_file, file_rows}
use Rattle.scm_render.proofs.StepLemmas.{InRange-fits}
use Rattle.scm_document.proofs.ViewPieceLemmas.{file-height}
use Rattle.scm_document.proofs.file_view.FileView.row_below.Goals as goal

pub height-requires : goal.height-requires
height-requires c =
    let size = file-height c.args.self.now in
    omega (arith, places, size, c.requires.y, c.requires.end)

pub strict_add_unsigned-requires : goal.strict_add_unsigned-requires
strict_add_unsigned-requires c =
    let rows : c.height.result ≡ length (file_rows (shown_file c.args.self.now)) = c.height.ensures ∙ sym (file-height c.args.self.now) in
    rw rows (simp (to_z-of_z, c.ranges.y) (InRange-fits _ c.requires.end))

pub returns : goal.returns
returns c =
    let rows : c.height.result ≡ length (file_rows (shown_file c.args.self.now)) = c.height.ensures ∙ sym (file-height c.args.self.now) in
    let fits : FitsSigned w64 (c.args.y +ℤ pos (length (file_rows (shown_file c.args.self.now)))) = InRange-fits _ c.requires.end in
    let below = simp (to_z-of_z, c.ranges.y, fits) at (rw rows at c.strict_add_unsigned.ensures) in
    rw below (simp (to_z-of_z, c.ranges.y, fits) refl)
