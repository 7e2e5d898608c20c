use Rattle.std.proofs.Common.{FitsSigned, w64, arith}
use Rattle.std.proofs.lemmas.Int.{ints, to_z-of_z}
use Rattle.scm_screen_tests.specs.Near.{IsNear}
use Rattle.scm_screen_tests.proofs.render.check_sight.Goals as goal

pub returns : goal.returns
returns g c =
    let fx : FitsSigned w64 c.rect-shown.result.x = omega (arith, ints, c.rect-shown.ensures.in_range.x) in
    let fe : FitsSigned w64 c.end_x.result = omega (arith, ints, c.end_x.ensures, c.rect-shown.ensures.in_range.end_x) in
    let fm : FitsSigned w64 c.mask-mask.result.x = omega (arith, ints, c.mask-mask.ensures.in_range.x) in
    let x : IsNear c.rect-shown.result.x = simp to_z-of_z at c.check_near.ensures in
    let end_x : IsNear c.end_x.result = simp to_z-of_z at c.check_near-2.ensures in
    let mask_x : IsNear c.mask-mask.result.x = simp to_z-of_z at c.check_near-3.ensures in
    let begins = rw c.rect-shown.ensures.value at x in
    let ends = rw c.rect-shown.ensures.value at (rw c.end_x.ensures at end_x) in
    let mask = rw c.mask-mask.ensures.value at mask_x in
    record { x = omega (arith, ints, begins.low); end_x = omega (arith, ints, ends.high); mask_x = omega (arith, ints, mask.high) }
