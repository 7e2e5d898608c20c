use Rattle.std.proofs.Common.{◌≡◌, ℕ, ◌<◌, get_or, true}
use Rattle.scm_tree.specs.declared.place.Mark.{Mark}
use Rattle.scm_tree.specs.Decisions.{is_shown}
use Rattle.scm_tree.proofs.decision.check_marks.Given as goal

abbrev pub invariant-loop-i : goal.invariant-loop-i
invariant-loop-i l = (k : ℕ) (d : Mark) → k < l.i → is_shown l.count (get_or l.marks k d) ≡ true
