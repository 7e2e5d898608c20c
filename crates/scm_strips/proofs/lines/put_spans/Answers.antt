use Rattle.std.proofs.Common.{◌<◌, length, refl, arith}
use Rattle.scm_cells.specs.Spans.{span_texts}
use Rattle.scm_strips.proofs.RowLemmas.{held, held-reach, sized-same, sized-then, spans-all, spans-end, spans-reach, spans-then}
use Rattle.scm_strips.proofs.lines.put_spans.Goals as goal

pub loop-span-init : goal.loop-span-init
loop-span-init c =
    record {
      size = sized-same _ _ refl;
      near = omega (arith, c.min-next.ensures);
      rows = held c.args.row c.args.column c.min-next.result (span_texts c.args.spans.now) c.args.low c.args.high c.args.grid.now c.min-next.ensures;
      end = held-reach c.args.high c.args.column c.min-next.result (span_texts c.args.spans.now) c.min-next.ensures;
    }

pub loop-span-preserved : goal.loop-span-preserved
loop-span-preserved c =
    let row : c.args.row < length c.loop-span.grid.rows = omega (arith, c.requires.row, c.loop-span.invariant.size.height) in
    record {
      size = sized-then _ _ _ c.loop-span.invariant.size c.in_ok-next.ensures.size;
      near = omega (arith, c.in_ok-next.ensures.end);
      rows = spans-then c.args.row c.loop-span.next c.in_ok-next.next c.args.spans.now c.loop-span.span-index _ c.args.low c.args.high _ _ _ row (omega arith)
          c.in_ok-next.ensures.ok c.in_ok-next.ensures.end c.loop-span.invariant.rows;
      end = spans-reach c.args.high c.loop-span.next c.in_ok-next.next _ c.args.spans.now c.loop-span.span-index _ (omega arith) c.in_ok-next.ensures.end c.loop-span.invariant.end;
    }

pub returns-clause-ok : goal.returns-clause-ok
returns-clause-ok c =
    let row : c.args.row < length c.loop-span.grid.rows = omega (arith, c.requires.row, c.loop-span.invariant.size.height) in
    spans-end c.args.row c.loop-span.next c.args.spans.now c.loop-span.span-index c.args.low c.args.high _ _ row (omega arith) c.loop-span.invariant.rows

pub returns-clause-end : goal.returns-clause-end
returns-clause-end c =
    spans-all c.args.high c.loop-span.next _ c.args.spans.now c.loop-span.span-index c.loop-span.invariant.near (omega arith) c.loop-span.invariant.end
