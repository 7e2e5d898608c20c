use Rattle.std.proofs.Common.{◌≡◌, ◌-◌, ◌*◌, drop, length}
use Rattle.scm_render.specs.Left.{IsLeft}
use Rattle.scm_cells.specs.Counts.{added}
use Rattle.scm_widgets.specs.Counts.{drawn}
use Rattle.scm_overlay.specs.Menus.{items_picture}
use Rattle.scm_overlay.proofs.menu.MenuComponent.draw.Given as goal

abbrev pub invariant-loop-item : goal.invariant-loop-item
invariant-loop-item l =
    record {
      left : IsLeft l.fn.viewport.canvas l.viewport.canvas
          (items_picture l.width l.fn.viewport.canvas.sight (drop l.item-index l.item-items))
          (items_picture l.width l.fn.viewport.canvas.sight l.item-items);
      counts : added l.viewport.counts (drawn 0 (2 * (length l.item-items - l.item-index))) ≡ added l.fn.viewport.counts (drawn 0 (2 * length l.item-items));
    }
