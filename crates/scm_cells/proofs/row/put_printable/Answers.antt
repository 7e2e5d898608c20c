use Rattle.std.proofs.Common.{◌≡◌, ◌∙◌, ◌+◌, ◌-◌, arith, ap₂, refl, take, drop, length-take, rules, FitsSigned, w64, inl, inr}
use Rattle.std.proofs.lemmas.List.{length-map}
use Rattle.scm_cells.specs.Cell.{byte_cell}
use Rattle.scm_cells.proofs.TailLemmas.{IsBlankFrom-before}
use Rattle.std.specs.Prelude.{pos, ◌-ℤ◌}
use Rattle.std.specs.Int.{int_max}
use Rattle.std.proofs.lemmas.Int.{to_z-of_z, to_z_pos}
use Rattle.scm_cells.specs.Rect.{or_zero}
use Rattle.scm_cells.proofs.RectLemmas.{places}
use Rattle.scm_cells.proofs.ByteLemmas.{printable-part, put-bytes_some, put-bytes_none}
use Rattle.scm_cells.proofs.row.put_printable.Goals as goal

pub write_over-requires-clause-printable : goal.write_over-requires-clause-printable
write_over-requires-clause-printable c = rw c.as_bytes-bytes.ensures.value (printable-part _ _ c.args.text.now c.requires.printable)

pub returns-then-from-high-clause-row : goal.returns-then-from-high-clause-row
returns-then-from-high-clause-row c =
    let fits : FitsSigned w64 c.args.column = search rules in
    let start = simp to_z-of_z at c.gap.ensures in
    let from : c.max-from.result ≡ or_zero (int_max c.args.column (pos c.args.low)) = omega (arith, places, start, c.max-from.ensures) in
    put-bytes_none _ c.args.column c.args.text.now c.args.low c.args.high _ _ c.requires.printable from refl (inl (omega arith))

pub returns-then-skipped-bytes-clause-row : goal.returns-then-skipped-bytes-clause-row
returns-then-skipped-bytes-clause-row c =
    let fits : FitsSigned w64 c.args.column = search rules in
    let start = simp to_z-of_z at c.gap.ensures in
    let from : c.max-from.result ≡ or_zero (int_max c.args.column (pos c.args.low)) = omega (arith, places, start, c.max-from.ensures) in
    let low = to_z_pos w64 c.args.low (omega (arith, c.requires.width, c.max-from.ensures)) in
    let skipped : c.gap-skipped.result ≡ or_zero (pos c.args.low -ℤ c.args.column) = simp (to_z-of_z, low) at c.gap-skipped.ensures in
    let size : c.gap-skipped.result + c.min-count.result - c.gap-skipped.result ≡ c.min-count.result = omega arith in
    c.write_over.ensures
    ∙ put-bytes_some _ c.args.column c.args.text.now _ c.args.low c.args.high _ _ c.min-count.result c.requires.printable from skipped (omega (arith, c.min-count.ensures, c.as_bytes-bytes.ensures.len))
    (ap₂ (λ n bs. take n (drop c.gap-skipped.result bs)) size c.as_bytes-bytes.ensures.value)

pub returns-then-skipped-bytes-clause-tail : goal.returns-then-skipped-bytes-clause-tail
returns-then-skipped-bytes-clause-tail c = λ n le blank_from.
    IsBlankFrom-before c.args.columns.now _ _ _ n c.write_over.ensures (omega (arith, le, length-map (take (c.gap-skipped.result + c.min-count.result - c.gap-skipped.result) (drop c.gap-skipped.result c.as_bytes-bytes.result.now)) byte_cell, length-take (c.gap-skipped.result + c.min-count.result - c.gap-skipped.result) (drop c.gap-skipped.result c.as_bytes-bytes.result.now))) blank_from

pub returns-else-skipped-bytes-clause-row : goal.returns-else-skipped-bytes-clause-row
returns-else-skipped-bytes-clause-row c =
    let fits : FitsSigned w64 c.args.column = search rules in
    let start = simp to_z-of_z at c.gap.ensures in
    let from : c.max-from.result ≡ or_zero (int_max c.args.column (pos c.args.low)) = omega (arith, places, start, c.max-from.ensures) in
    let low = to_z_pos w64 c.args.low (omega (arith, c.requires.width, c.max-from.ensures)) in
    let skipped : c.gap-skipped.result ≡ or_zero (pos c.args.low -ℤ c.args.column) = simp (to_z-of_z, low) at c.gap-skipped.ensures in
    put-bytes_none _ c.args.column c.args.text.now c.args.low c.args.high _ _ c.requires.printable from skipped (inr (omega (arith, c.if-skipped-bytes.false, c.as_bytes-bytes.ensures.len)))
