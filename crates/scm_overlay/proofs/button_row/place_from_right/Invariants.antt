use Rattle.std.proofs.Common.{◌≡◌, ◌++◌, drop}
use Rattle.scm_widgets.specs.Buttons.{ArePlacedInRange, placed_from_right}
use Rattle.scm_overlay.proofs.button_row.place_from_right.Given as goal

abbrev pub invariant-loop-button : goal.invariant-loop-button
invariant-loop-button g l =
    record {
      fits : ArePlacedInRange (placed_from_right l.right l.y (drop l.button-index l.buttons));
      made : l.placed.items ++ placed_from_right l.right l.y (drop l.button-index l.buttons) ≡ placed_from_right l.fn.end l.y l.buttons;
    }
