use Rattle.std.proofs.Common.{◌≡◌, ◌++◌, drop}
use Rattle.scm_widgets.specs.Buttons.{ArePlacedInRange}
use Rattle.scm_overlay.specs.Menus.{placed_items}
use Rattle.scm_overlay.proofs.menu.place_items.Given as goal

abbrev pub invariant-loop-item_idx : goal.invariant-loop-item_idx
invariant-loop-item_idx l =
    record {
      fits : ArePlacedInRange (placed_items l.x l.row l.item_idx (drop l.item_idx l.items));
      made : l.placed.items ++ placed_items l.x l.row l.item_idx (drop l.item_idx l.items) ≡ l.fn.placed.items ++ placed_items l.x l.fn.y 0 l.items;
    }
