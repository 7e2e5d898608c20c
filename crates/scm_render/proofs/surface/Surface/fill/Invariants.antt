use Rattle.std.proofs.Common.{◌≡◌, ◌-◌}
use Rattle.std.specs.Prelude.{pos, ◌+ℤ◌}
use Rattle.scm_render.specs.Canvas.{with_puts}
use Rattle.scm_render.specs.Drawing.{rows_puts, fill_puts}
use Rattle.scm_render.proofs.surface.Surface.fill.Given as goal

abbrev pub invariant-loop-offset : goal.invariant-loop-offset
invariant-loop-offset l =
    record {
      rect : l.self.rect ≡ l.fn.self.rect;
      left : with_puts (rows_puts l.filling l.rect (l.rect.y +ℤ pos l.offset) (l.rect.height - l.offset)) l.self ≡ with_puts (fill_puts l.filling l.rect) l.fn.self;
    }
