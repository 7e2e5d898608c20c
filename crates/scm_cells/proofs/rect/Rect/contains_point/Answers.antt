use Rattle.std.proofs.Common.{arith, refl}
use Rattle.std.proofs.lemmas.Int.{ints}
use Rattle.scm_cells.proofs.rect.Rect.contains_point.Goals as goal

pub returns-then-is_between : goal.returns-then-is_between
returns-then-is_between c = (
  (λ t.
      let xs = c.if-is_between.ensures.0 refl in
      let ys = c.is_between-then-is_between.ensures.0 t in
      record { left = omega (arith, ints); right = omega (arith, ints); top = omega (arith, ints); bottom = omega (arith, ints) }),
  (λ h. c.is_between-then-is_between.ensures.1 (omega (arith, ints), omega (arith, ints))),
)
