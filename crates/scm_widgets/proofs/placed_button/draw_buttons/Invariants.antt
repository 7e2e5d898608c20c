use Rattle.std.proofs.Common.{◌≡◌, ◌-◌, drop, length}
use Rattle.scm_render.specs.Left.{IsLeft}
use Rattle.scm_cells.specs.Counts.{added}
use Rattle.scm_widgets.specs.Counts.{drawn}
use Rattle.scm_widgets.specs.Buttons.{placed_picture}
use Rattle.scm_widgets.proofs.placed_button.draw_buttons.Given as goal

abbrev pub invariant-loop-placed : goal.invariant-loop-placed
invariant-loop-placed g l =
    record {
      left : IsLeft l.fn.viewport.canvas l.viewport.canvas
          (placed_picture l.fn.viewport.canvas.sight (drop l.placed-index l.buttons))
          (placed_picture l.fn.viewport.canvas.sight l.buttons);
      counts : added l.viewport.counts (drawn 0 (length l.buttons - l.placed-index)) ≡ added l.fn.viewport.counts (drawn 0 (length l.buttons));
    }
