use Rattle.std.proofs.Common.{◌≡◌, ◌++◌, drop}
use Rattle.scm_widgets.specs.OverlayRects.{button_rects}
use Rattle.scm_widgets.proofs.placed_button.push_buttons.Given as goal

abbrev pub invariant-loop-placed : goal.invariant-loop-placed
invariant-loop-placed l = l.rects.items ++ button_rects (drop l.placed-index l.buttons) ≡ l.fn.rects.items ++ button_rects l.buttons
