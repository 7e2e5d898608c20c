use Rattle.std.proofs.Common.{◌≡◌, ◌+◌, drop}
use Rattle.std.specs.Prelude.{pos, ◌+ℤ◌}
use Rattle.scm_cells.specs.Spans.{span_texts}
use Rattle.scm_render.specs.Canvas.{with_puts}
use Rattle.scm_render.specs.Drawing.{texts_puts, texts_width}
use Rattle.scm_render.proofs.surface.Surface.put_spans.Given as goal

abbrev pub invariant-loop-span : goal.invariant-loop-span
invariant-loop-span l =
    let rest = span_texts (drop l.span-index l.spans) in
    record {
      rect : l.self.rect ≡ l.fn.self.rect;
      columns : l.columns + texts_width rest ≡ texts_width (span_texts l.spans);
      left : with_puts (texts_puts l.fn.within (l.x +ℤ pos l.columns) l.y rest) l.self ≡ with_puts (texts_puts l.fn.within l.x l.y (span_texts l.spans)) l.fn.self;
    }
