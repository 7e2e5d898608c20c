use Rattle.std.specs.Prelude.{◌≡◌, ◌-◌, drop, length}
use Rattle.scm_cells.specs.Counts.{added}
use Rattle.scm_render.specs.Left.{IsLeft}
use Rattle.scm_screen_tests.specs.Samples.{column_picture}
use Rattle.scm_screen_tests.proofs.samples.ColumnComponent.draw.Given as goal

abbrev pub invariant-loop-caption : goal.invariant-loop-caption
invariant-loop-caption l =
    let s = l.fn.viewport.canvas.sight in
    record {
      left : IsLeft l.fn.viewport.canvas l.viewport.canvas (column_picture (drop l.caption-index l.self.captions.items) s l.x l.row) (column_picture l.self.captions.items s l.fn.x l.fn.y);
      counts : added l.viewport.counts (record { rows = 0; calls = length l.self.captions.items - l.caption-index }) ≡ added l.fn.viewport.counts (record { rows = 0; calls = length l.self.captions.items });
    }
