use Rattle.std.proofs.Common.{◌≡◌, pos, refl, arith, w64, to_z}
use Rattle.std.proofs.lemmas.Int.{to_z_pos}
use Rattle.scm_types.proofs.LimitLemmas.{scroll_room}
use Rattle.scm_view.proofs.frame_measures.screen.Goals as goal

pub returns : goal.returns
returns c =
    let y : to_z w64 c.args.scroll ≡ pos c.args.scroll = to_z_pos w64 c.args.scroll (omega (arith, c.requires, scroll_room)) in
    rw (y, c.from.ensures, c.from-2.ensures) refl
