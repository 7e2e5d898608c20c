use Rattle.std.proofs.Common.{◌≡◌, ℕ, ◌+◌, ◌-◌, ◌<◌, ◌≤◌}
use Rattle.scm_cells.specs.Symbols.{symbol_at}
use Rattle.scm_front_paint.proofs.cut.is_same_part.Given as goal

abbrev pub invariant-places : goal.invariant-places
invariant-places l = (c : ℕ) → l.from ≤ c → c < l.column → symbol_at l.own.grid.now.rows l.own.row c ≡ symbol_at l.other.grid.now.rows l.other.row (l.x + c)

abbrev pub decreases-places : goal.decreases-places
decreases-places l = l.end - l.column
