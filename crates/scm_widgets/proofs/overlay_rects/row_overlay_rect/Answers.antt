use Rattle.std.proofs.Common.{◌≡◌, pos, refl, arith, w64, to_z}
use Rattle.std.proofs.lemmas.Int.{to_z_pos}
use Rattle.scm_widgets.proofs.overlay_rects.row_overlay_rect.Goals as goal

pub returns : goal.returns
returns c =
    let x : to_z w64 c.args.left ≡ pos c.args.left = to_z_pos w64 c.args.left (omega (arith, c.requires.column)) in
    let y : to_z w64 c.args.row ≡ pos c.args.row = to_z_pos w64 c.args.row (omega (arith, c.requires.row)) in
    rw (x, y) refl
