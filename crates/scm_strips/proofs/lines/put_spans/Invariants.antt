use Rattle.std.proofs.Common.{◌≡◌, ◌≤◌, ◌+◌, drop}
use Rattle.scm_cells.specs.Spans.{span_texts}
use Rattle.scm_strips.specs.Painted.{IsSized, reached, with_texts}
use Rattle.scm_strips.proofs.lines.put_spans.Given as goal

abbrev pub invariant-loop-span : goal.invariant-loop-span
invariant-loop-span l =
    let rest = span_texts (drop l.span-index l.spans) in
    record {
      size : IsSized l.fn.grid l.grid;
      near : l.next ≤ l.high + 1;
      rows : with_texts l.row l.next rest l.low l.high l.grid ≡ with_texts l.fn.row l.fn.column (span_texts l.spans) l.low l.high l.fn.grid;
      end : reached l.high l.next rest ≡ reached l.fn.high l.fn.column (span_texts l.spans);
    }
