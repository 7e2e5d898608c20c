use Rattle.std.proofs.Common.{◌≡◌, drop}
use Rattle.std.specs.Prelude.{pos, ◌+ℤ◌}
use Rattle.scm_render.specs.Canvas.{with_puts}
use Rattle.scm_render.specs.Drawing.{lines_puts, body_texts}
use Rattle.scm_render.proofs.surface.Surface.put_lines.Given as goal

abbrev pub invariant-loop-offset : goal.invariant-loop-offset
invariant-loop-offset l =
    record {
      rect : l.self.rect ≡ l.fn.self.rect;
      left : with_puts (lines_puts l.within l.x (l.y +ℤ pos l.offset) (body_texts (drop l.offset l.lines))) l.self ≡ with_puts (lines_puts l.within l.x l.y (body_texts l.lines)) l.fn.self;
    }
