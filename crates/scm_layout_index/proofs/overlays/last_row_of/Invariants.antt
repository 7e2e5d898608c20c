use Rattle.std.proofs.Common.{take}
use Rattle.scm_layout_index.specs.Overlays.{AreAbove}
use Rattle.scm_layout_index.proofs.overlays.last_row_of.Given as goal

abbrev pub invariant-loop-placed : goal.invariant-loop-placed
invariant-loop-placed l = AreAbove l.last (take l.placed-index l.rects)
