use Rattle.std.proofs.Common.{◌<◌, sym, arith}
use Rattle.std.proofs.lemmas.Bool.Decides.{nat_tests}
use Rattle.scm_layout_index.proofs.OverlayLemmas.{none-below}
use Rattle.scm_layout_index.proofs.overlays.Overlays.are_above.Goals as goal

pub returns : goal.returns
returns c = λ above y low high.
    let past : c.self.inside.last < y = grind (arith, nat_tests) in
    rw (sym c.self.view_is) (none-below c.self.inside.rects.items c.self.inside.last y c.self.invariant high past)
