use Rattle.std.proofs.Common.{◌≡◌, ◌<◌, length, true, arith, rules}
use Rattle.scm_cells.specs.Symbols.{symbol_in}
use Rattle.scm_terminal.proofs.PictureLemmas.{shows-read}
use Rattle.scm_terminal.proofs.ShowingLemmas.{by-place, one-place}
use Rattle.scm_terminal.proofs.row.end_of_letters.Goals as goal

pub letters-preserved : goal.letters-preserved
letters-preserved c =
    let held = c.letters.invariant in
    let low = held.low in
    let at = c.letters-test.true in
    let end = c.min-end.ensures in
    let sizes = c.requires.styles in
    let same : c.is_same_letter.result ≡ true = search rules in
    let within : c.letters.column < length c.args.columns.now = omega arith in
    let shows = shows-read c.args.columns.now c.letters.column c.index-columns-column.result c.index-cells-column.result c.index-styles-column.result within c.index-columns-column.is (c.is_same_letter.ensures same) in
    record {
      low = omega arith;
      high = omega arith;
      shown = λ k from h.
          by-place k c.letters.column (λ (before : k < c.letters.column). held.shown k from before)
          (λ e. one-place (λ n. symbol_in c.args.columns.now n) c.args.cells.now c.args.styles.now k c.letters.column c.index-cells-column.result c.index-styles-column.result e (omega arith) (omega arith) h c.index-cells-column.is c.index-styles-column.is shows);
    }
