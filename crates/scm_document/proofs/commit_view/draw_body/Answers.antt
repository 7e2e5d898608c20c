use Rattle.std.proofs.Common.{◌≡◌, ◌∙◌, sym, ap, length, map, true, false, ◌==◌, FitsSigned, w64}
use Rattle.std.specs.Prelude.{pos, ◌+ℤ◌}
use Rattle.std.proofs.lemmas.Int.{to_z-of_z}
use Rattle.scm_document.specs.Rows.{shown_file}
use Rattle.scm_render.proofs.StepLemmas.{InRange-fits}
use Rattle.scm_document.proofs.FilesLemmas.{length-shown, files-top}
use Rattle.scm_document.proofs.commit_view.draw_body.Goals as goal

pub draw_no_files-requires : goal.draw_no_files-requires
draw_no_files-requires c =
    let none : (length (map shown_file c.args.files.now) == 0) ≡ true = ap (λ n. n == 0) (length-shown c.args.files.now) ∙ sym c.is_empty.ensures ∙ c.if-is_empty.true in
    simp (to_z-of_z, c.ranges.x, c.ranges.y) (rw none at c.requires)

pub strict_add_unsigned-first-requires : goal.strict_add_unsigned-first-requires
strict_add_unsigned-first-requires c =
    let some : (length (map shown_file c.args.files.now) == 0) ≡ false = ap (λ n. n == 0) (length-shown c.args.files.now) ∙ sym c.is_empty.ensures ∙ c.if-is_empty.false in
    simp (to_z-of_z, c.ranges.x, c.ranges.y) (InRange-fits _ (files-top _ _ _ _ some (rw some at c.requires)))

pub draw_files-requires : goal.draw_files-requires
draw_files-requires c =
    let some : (length (map shown_file c.args.files.now) == 0) ≡ false = ap (λ n. n == 0) (length-shown c.args.files.now) ∙ sym c.is_empty.ensures ∙ c.if-is_empty.false in
    let fits : FitsSigned w64 (c.args.y +ℤ pos c.args.height) = InRange-fits _ (files-top _ _ _ _ some (rw some at c.requires)) in
    let row = simp (to_z-of_z, c.ranges.x, c.ranges.y, fits) at c.strict_add_unsigned-first.ensures in
    rw row (simp (to_z-of_z, c.ranges.x, c.ranges.y, fits) (rw some at c.requires))

pub returns-then-is_empty : goal.returns-then-is_empty
returns-then-is_empty c =
    let none : (length (map shown_file c.args.files.now) == 0) ≡ true = ap (λ n. n == 0) (length-shown c.args.files.now) ∙ sym c.is_empty.ensures ∙ c.if-is_empty.true in
    rw none (simp (to_z-of_z, c.ranges.x, c.ranges.y) at c.draw_no_files.ensures)

pub returns-else-is_empty : goal.returns-else-is_empty
returns-else-is_empty c =
    let some : (length (map shown_file c.args.files.now) == 0) ≡ false = ap (λ n. n == 0) (length-shown c.args.files.now) ∙ sym c.is_empty.ensures ∙ c.if-is_empty.false in
    let fits : FitsSigned w64 (c.args.y +ℤ pos c.args.height) = InRange-fits _ (files-top _ _ _ _ some (rw some at c.requires)) in
    let row = simp (to_z-of_z, c.ranges.y) at c.strict_add_unsigned-first.ensures in
    rw some (simp (to_z-of_z, c.ranges.x, c.ranges.y, fits) at (rw row at c.draw_files.ensures))
