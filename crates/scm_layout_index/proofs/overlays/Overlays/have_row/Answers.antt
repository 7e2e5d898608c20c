use Rattle.std.proofs.Common.{◌≡◌, ◌<◌, ◌∙◌, false, sym, arith}
use Rattle.std.specs.Prelude.{nat_le}
use Rattle.std.proofs.lemmas.Bool.Decides.{nat_tests}
use Rattle.scm_layout_index.proofs.OverlayLemmas.{none-below}
use Rattle.scm_layout_index.proofs.overlays.Overlays.have_row.Goals as goal

pub returns-else-row-self : goal.returns-else-row-self
returns-else-row-self c =
    let below = c.if-row-self.false in
    let no : nat_le c.args.row c.self.inside.last ≡ false = grind (arith, nat_tests) in
    let past : c.self.inside.last < c.args.row = grind (arith, nat_tests) in
    rw (sym c.self.view_is) (no ∙ sym (none-below c.self.inside.rects.items c.self.inside.last c.args.row c.self.invariant c.ranges.row.fits past))
