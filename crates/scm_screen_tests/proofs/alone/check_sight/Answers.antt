use Rattle.std.proofs.Common.{FitsSigned, w64, arith}
use Rattle.std.proofs.lemmas.Int.{ints, to_z-of_z}
use Rattle.scm_screen_tests.specs.Corner.{IsAtCorner}
use Rattle.scm_screen_tests.proofs.alone.check_sight.Goals as goal

pub returns : goal.returns
returns g c =
    let fx : FitsSigned w64 c.rect-shown.result.x = omega (arith, ints, c.rect-shown.ensures.in_range.x) in
    let fe : FitsSigned w64 c.end_x.result = omega (arith, ints, c.end_x.ensures, c.rect-shown.ensures.in_range.end_x) in
    let fy : FitsSigned w64 c.rect-shown.result.y = omega (arith, ints, c.rect-shown.ensures.in_range.y) in
    let fz : FitsSigned w64 c.end_y.result = omega (arith, ints, c.end_y.ensures, c.rect-shown.ensures.in_range.end_y) in
    let fm : FitsSigned w64 c.mask-mask.result.x = omega (arith, ints, c.mask-mask.ensures.in_range.x) in
    let fn_ : FitsSigned w64 c.mask-mask.result.y = omega (arith, ints, c.mask-mask.ensures.in_range.y) in
    let x : IsAtCorner c.rect-shown.result.x = simp to_z-of_z at c.check_near.ensures in
    let end_x : IsAtCorner c.end_x.result = simp to_z-of_z at c.check_near-2.ensures in
    let y : IsAtCorner c.rect-shown.result.y = simp to_z-of_z at c.check_near-3.ensures in
    let end_y : IsAtCorner c.end_y.result = simp to_z-of_z at c.check_near-4.ensures in
    let mask_x : IsAtCorner c.mask-mask.result.x = simp to_z-of_z at c.check_near-5.ensures in
    let mask_y : IsAtCorner c.mask-mask.result.y = simp to_z-of_z at c.check_near-6.ensures in
    record {
      x = rw c.rect-shown.ensures.value at x;
      end_x = rw c.rect-shown.ensures.value at (rw c.end_x.ensures at end_x);
      y = rw c.rect-shown.ensures.value at y;
      end_y = rw c.rect-shown.ensures.value at (rw c.end_y.ensures at end_y);
      mask_x = rw c.mask-mask.ensures.value at mask_x;
      mask_y = rw c.mask-mask.ensures.value at mask_y;
    }
