use Rattle.std.proofs.Common.{◌≡◌, ◌<◌, ◌≤◌, ◌+◌, ◌∙◌, true, false, ap, arith, rules}
use Rattle.std.proofs.lemmas.List.{get_or_default}
use Rattle.scm_cells.specs.Symbols.{symbol_at}
use Rattle.scm_terminal.specs.Style.{plain_style}
use Rattle.scm_terminal.specs.StyledCell.{cell_of, cell_in}
use Rattle.scm_terminal.proofs.ShowingLemmas.{by-place, one-place, differs, all_shown}
use Rattle.scm_terminal.proofs.StyledCellLemmas.{letters-in-row}
use Rattle.scm_terminal.proofs.row.is_showing.Goals as goal

pub places-init : goal.places-init
places-init c = record {
  high = c.end_of_letters-column.ensures.high;
  shown = λ k h. letters-in-row c.args.grid.now c.args.row c.columns-columns.result.now c.args.styles.now k _ c.columns-columns.ensures (c.end_of_letters-column.ensures.shown k (omega arith) h);
}

pub places-preserved : goal.places-preserved
places-preserved c =
    let held = c.places.invariant in
    let at = c.places-test.true in
    let sizes = c.requires.styles in
    let wide = c.requires.cells in
    let same : c.is_place.result ≡ true = search rules in
    record {
      high = c.end_of_letters-column-in-places.ensures.high;
      shown = λ k h.
          by-place k c.places.column (λ (before : k < c.places.column). held.shown k before)
          (λ (from : c.places.column ≤ k).
          by-place k (c.places.column + 1)
          (λ (here : k < c.places.column + 1). one-place (λ n. symbol_at c.args.grid.now.rows c.args.row n) c.args.cells.now c.args.styles.now k c.places.column c.index-cells-column.result c.index-styles-column.result from at (omega arith) here c.index-cells-column.is c.index-styles-column.is (c.is_place.ensures.0 same))
          (λ (behind : c.places.column + 1 ≤ k). letters-in-row c.args.grid.now c.args.row c.columns-columns.result.now c.args.styles.now k _ c.columns-columns.ensures (c.end_of_letters-column-in-places.ensures.shown k behind h)));
    }

pub returns-then-not-is_place : goal.returns-then-not-is_place
returns-then-not-is_place c =
    let not : c.is_place.result ≡ false = search rules in
    differs (cell_in c.args.styles.now c.args.grid.now c.args.row) c.args.cells.now c.args.grid.now.width c.places.column c.index-cells-column.result _ c.is_place.result
    (omega arith) c.requires.cells c.index-cells-column.is
    (ap (cell_of (symbol_at c.args.grid.now.rows c.args.row c.places.column)) (c.index-styles-column.is ∙ get_or_default c.args.styles.now c.places.column _ plain_style (omega (arith, c.requires.styles, c.requires.cells))))
    c.is_place.ensures not

pub returns : goal.returns
returns c = (
  λ t. all_shown (cell_in c.args.styles.now c.args.grid.now c.args.row) c.args.cells.now c.args.grid.now.width c.requires.cells
      (λ k h. c.places.invariant.shown k (let size = c.requires.cells in omega arith)),
  λ e. search rules,
)
