use Rattle.std.proofs.Common.{List, [], take}
use Rattle.scm_tree.specs.declared.place.Entry.{Entry}
use Rattle.scm_tree.specs.Places.{AreListed}
use Rattle.scm_tree.proofs.place.add_new.Given as goal

abbrev pub invariant-loop-i : goal.invariant-loop-i
invariant-loop-i l = (old : List Entry) → AreListed old [] [] l.initial.places.items → AreListed old (take l.i l.new) [] l.places.items
