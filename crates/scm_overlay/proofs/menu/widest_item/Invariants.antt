use Rattle.std.proofs.Common.{◌≡◌, drop}
use Rattle.std.specs.Prelude.{max}
use Rattle.scm_overlay.specs.Menus.{widest_item}
use Rattle.scm_overlay.proofs.menu.widest_item.Given as goal

abbrev pub invariant-loop-item : goal.invariant-loop-item
invariant-loop-item l = max l.widest (widest_item (drop l.item-index l.items)) ≡ widest_item l.items
