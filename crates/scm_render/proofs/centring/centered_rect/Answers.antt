use Rattle.std.proofs.Common.{arith, ◌+◌, ◌≤◌, FitsSigned, w64}
use Rattle.std.proofs.lemmas.Int.{to_z-of_z}
use Rattle.scm_cells.proofs.RectLemmas.{places}
use Rattle.scm_render.proofs.CentringLemmas.{centred-fits}
use Rattle.scm_render.proofs.centring.centered_rect.Goals as goal

pub returns-clause-in_range : goal.returns-clause-in_range
returns-clause-in_range c =
    let r = c.args.rect in
    let fx : FitsSigned w64 r.x = omega (arith, places, c.requires.rect.x) in
    let fy : FitsSigned w64 r.y = omega (arith, places, c.requires.rect.y) in
    let x = simp to_z-of_z at c.strict_add_unsigned.ensures in
    let y = simp to_z-of_z at c.strict_add_unsigned-2.ensures in
    let across : c.centred_gap-left.result + c.centred_size.result ≤ r.width = rw (c.centred_gap-left.ensures.gap, c.centred_size.ensures) (centred-fits r.width c.args.least.width c.args.percent_width c.requires.width) in
    let down : c.centred_gap-above.result + c.centred_size-2.result ≤ r.height = rw (c.centred_gap-above.ensures.gap, c.centred_size-2.ensures) (centred-fits r.height c.args.least.height c.args.percent_height c.requires.height) in
    let gx : FitsSigned w64 c.strict_add_unsigned.result = omega (arith, places, x, across, c.requires.rect.x, c.requires.rect.end_x) in
    let gy : FitsSigned w64 c.strict_add_unsigned-2.result = omega (arith, places, y, down, c.requires.rect.y, c.requires.rect.end_y) in
    simp to_z-of_z (record {
      x = record { low = omega (arith, places, x, c.requires.rect.x); high = omega (arith, places, x, across, c.requires.rect.end_x) };
      end_x = record { low = omega (arith, places, x, c.requires.rect.x); high = omega (arith, places, x, across, c.requires.rect.end_x) };
      y = record { low = omega (arith, places, y, c.requires.rect.y); high = omega (arith, places, y, down, c.requires.rect.end_y) };
      end_y = record { low = omega (arith, places, y, c.requires.rect.y); high = omega (arith, places, y, down, c.requires.rect.end_y) };
    })
