use Rattle.std.proofs.Common.{◌≡◌, ◌++◌, drop, replicate}
use Rattle.scm_front_paint.proofs.status_painter.fill.Given as goal

abbrev pub invariant-places : goal.invariant-places
invariant-places l = l.styles ≡ replicate l.place-index l.style ++ drop l.place-index l.initial.styles
