use Rattle.std.proofs.Common.{◌∙◌, sym, refl, FitsSigned, w64}
use Rattle.std.proofs.lemmas.Int.{to_z-of_z}
use Rattle.scm_widgets.proofs.HiddenLemmas.{counted-shown, counted-hidden}
use Rattle.scm_widgets.proofs.clipped_drawing.begin_row.Goals as goal

pub returns-then-is_on_screen-clause-counts : goal.returns-then-is_on_screen-clause-counts
returns-then-is_on_screen-clause-counts c =
    let fy : FitsSigned w64 c.args.y = c.ranges.y in
    let test = simp to_z-of_z at c.is_on_screen.ensures.test in
    (counted-shown _ _ _ _ _ (sym test ∙ c.if-is_on_screen.true) c.begin_row.ensures.counts)

pub returns-else-is_on_screen-clause-counts : goal.returns-else-is_on_screen-clause-counts
returns-else-is_on_screen-clause-counts c =
    let fy : FitsSigned w64 c.args.y = c.ranges.y in
    let test = simp to_z-of_z at c.is_on_screen.ensures.test in
    (counted-hidden _ _ _ _ _ (sym test ∙ c.if-is_on_screen.false) refl)
