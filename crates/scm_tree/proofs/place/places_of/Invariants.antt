use Rattle.std.proofs.Common.{[], take}
use Rattle.scm_tree.specs.Places.{AreListed}
use Rattle.scm_tree.proofs.place.places_of.Given as goal

abbrev pub invariant-loop-i : goal.invariant-loop-i
invariant-loop-i l = AreListed (take l.i l.old) [] [] l.places.items
