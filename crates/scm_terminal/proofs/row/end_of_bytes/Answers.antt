use Rattle.std.proofs.Common.{◌≡◌, ◌<◌, true, arith, rules}
use Rattle.scm_terminal.proofs.ByteLemmas.{byte-at}
use Rattle.scm_terminal.proofs.ShowingLemmas.{by-place}
use Rattle.scm_terminal.proofs.row.end_of_bytes.Goals as goal

pub bytes-preserved : goal.bytes-preserved
bytes-preserved c =
    let held = c.bytes.invariant in
    let low = held.low in
    let at = c.bytes-test.true in
    let same : c.is_byte.result ≡ true = search rules in
    record {
      low = omega arith;
      high = omega arith;
      shown = λ k from h.
          by-place k c.bytes.column (λ (before : k < c.bytes.column). held.shown k from before)
          (λ e. byte-at c.args.cells.now k c.bytes.column c.index-cells-column.result e h at c.index-cells-column.is (c.is_byte.ensures same));
    }
