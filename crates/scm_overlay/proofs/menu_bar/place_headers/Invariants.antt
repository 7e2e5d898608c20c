use Rattle.std.proofs.Common.{◌≡◌, ◌++◌, drop}
use Rattle.scm_widgets.specs.Buttons.{ArePlacedInRange}
use Rattle.scm_overlay.specs.Menus.{placed_headers}
use Rattle.scm_overlay.proofs.menu_bar.place_headers.Given as goal

abbrev pub invariant-loop-menu_idx : goal.invariant-loop-menu_idx
invariant-loop-menu_idx l =
    record {
      fits : ArePlacedInRange (placed_headers l.column l.y l.menu_idx (drop l.menu_idx l.menus));
      made : l.placed.items ++ placed_headers l.column l.y l.menu_idx (drop l.menu_idx l.menus) ≡ placed_headers l.fn.x l.y 0 l.menus;
    }
