use Rattle.std.proofs.Common.{◌+◌, ◌-◌, ◌<◌, map, length, sym, ap₂, subst, ◌∙◌, arith}
use Rattle.std.specs.List.{range_with_len}
use Rattle.std.proofs.lemmas.List.{get_or_default}
use Rattle.scm_terminal.specs.Style.{plain_style}
use Rattle.scm_terminal.specs.StyledCell.{StyledCell, cell_in, cell_of, row_in}
use Rattle.scm_shown_cells.specs.Cells.{AddsCell}
use Rattle.scm_shown_cells.proofs.CellLemmas.{laters-are, left-more, one-more}
use Rattle.scm_shown_cells.proofs.cell_list.CellList.push_places.Goals as goal

pub loop-column-preserved : goal.loop-column-preserved
loop-column-preserved c =
    let styles = c.args.styles.now in
    let grid = c.args.grid.now in
    let row = c.args.row in
    let column = c.loop-column.column in
    let wide = c.width-width.ensures.value in
    let inside = c.loop-column-test.true in
    let size = c.requires in
    let within : column < grid.width = omega arith in
    left-more (row_in styles grid row) (map (cell_in styles grid row) (range_with_len column (grid.width - column)))
    (map (cell_in styles grid row) (range_with_len (column + 1) (grid.width - (column + 1)))) (cell_in styles grid row column) c.laters_from-laters.result
    c.args.self.now c.loop-column.self c.push_cell.new.self (one-more (cell_in styles grid row) column grid.width within)
    (c.laters_from-laters.ensures.value ∙ sym (laters-are styles grid row (column + 1) (grid.width - (column + 1))))
    (subst (λ (cell : StyledCell). AddsCell cell c.laters_from-laters.result c.loop-column.self c.push_cell.new.self)
    (ap₂ cell_of c.symbol.ensures (c.style.ensures ∙ c.index-styles-column.is ∙ get_or_default styles column c.index-styles-column.result plain_style (omega arith)))
    c.in_ok-push_cell.ensures)
    c.loop-column.invariant
