use Rattle.std.proofs.Common.{ap, arith, FitsSigned, w64}
use Rattle.std.specs.Prelude.{ℤ, pos, ◌-ℤ◌, ◌+ℤ◌}
use Rattle.std.proofs.lemmas.Int.{to_z-of_z}
use Rattle.scm_cells.specs.Rect.{end_x_of, InRange}
use Rattle.scm_cells.proofs.RectLemmas.{places}
use Rattle.scm_render.proofs.StepLemmas.{InRange-fits}
use Rattle.scm_widgets.proofs.mask_extent.fold_column.Goals as goal

three-less : (z : ℤ) → InRange z → FitsSigned w64 (z -ℤ pos 3)
three-less z r = omega (arith, places)

back : (z : ℤ) → InRange z → InRange ((z -ℤ pos 3) +ℤ pos 3)
back z r = record { low = omega (arith, places); high = omega (arith, places) }

pub returns-clause-column : goal.returns-clause-column
returns-clause-column c =
    let r = c.mask_rect-reach.result in
    let fe : FitsSigned w64 (end_x_of r) = InRange-fits _ c.mask_rect-reach.ensures.in_range.end_x in
    let fc : FitsSigned w64 (end_x_of r -ℤ pos 3) = three-less _ c.mask_rect-reach.ensures.in_range.end_x in
    rw c.end_x.ensures (simp to_z-of_z (ap (λ q. end_x_of q -ℤ pos 3) c.mask_rect-reach.ensures.value))

pub returns-clause-in_range : goal.returns-clause-in_range
returns-clause-in_range c =
    let r = c.mask_rect-reach.result in
    let fe : FitsSigned w64 (end_x_of r) = InRange-fits _ c.mask_rect-reach.ensures.in_range.end_x in
    let fc : FitsSigned w64 (end_x_of r -ℤ pos 3) = three-less _ c.mask_rect-reach.ensures.in_range.end_x in
    rw c.end_x.ensures (simp to_z-of_z (back _ c.mask_rect-reach.ensures.in_range.end_x))
