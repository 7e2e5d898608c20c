use Rattle.std.proofs.Common.{◌≡◌, ℕ, ◌<◌, get_or, None}
use Rattle.scm_tree.specs.declared.row.Row.{Row}
use Rattle.scm_tree.specs.Decisions.{row_fault}
use Rattle.scm_tree.proofs.decision.check_paths.Given as goal

abbrev pub invariant-loop-i : goal.invariant-loop-i
invariant-loop-i l = (k : ℕ) (d : Row) → k < l.i → row_fault l.count (get_or l.rows k d) ≡ None
