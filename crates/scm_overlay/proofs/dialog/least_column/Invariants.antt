use Rattle.std.proofs.Common.{◌≡◌, drop}
use Rattle.scm_overlay.specs.OverlayRects.{least_column}
use Rattle.scm_overlay.proofs.dialog.least_column.Given as goal

abbrev pub invariant-loop-placed : goal.invariant-loop-placed
invariant-loop-placed l = least_column l.least (drop l.placed-index l.buttons) ≡ least_column l.fn.first l.buttons
