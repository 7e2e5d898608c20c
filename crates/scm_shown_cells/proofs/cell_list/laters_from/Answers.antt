use Rattle.std.proofs.Common.{◌≡◌, ℕ, List, Option, None, Bor, option_map, sym, ap, ◌∙◌, arith}
use Rattle.scm_cells.specs.Symbols.{symbol_at}
use Rattle.scm_shown_cells.proofs.CellLemmas.{none-here}
use Rattle.scm_shown_cells.proofs.cell_list.laters_from.Goals as goal

pub loop-place-preserved : goal.loop-place-preserved
loop-place-preserved c =
    let wide = c.width-width.ensures.value in
    let within = c.loop-place-test.true in
    let low = c.loop-place.auto.place in
    let none : symbol_at c.args.grid.now.rows c.args.row c.loop-place.place ≡ None =
    sym c.symbol.ensures ∙ ap (λ (o : Option (Bor (List ℕ))). option_map (λ s. s.now) o) c.in-None.is in
    let step = none-here (symbol_at c.args.grid.now.rows c.args.row) c.loop-place.place c.args.grid.now.width (omega arith) none in
    let held = c.loop-place.invariant in
    omega arith
