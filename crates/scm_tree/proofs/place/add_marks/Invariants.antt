use Rattle.std.proofs.Common.{List, [], take}
use Rattle.scm_tree.specs.declared.place.Entry.{Entry}
use Rattle.scm_tree.specs.Places.{AreListed}
use Rattle.scm_tree.proofs.place.add_marks.Given as goal

abbrev pub invariant-loop-i : goal.invariant-loop-i
invariant-loop-i l = (old new : List Entry) → AreListed old new [] l.initial.places.items → AreListed old new (take l.i l.marks) l.places.items
