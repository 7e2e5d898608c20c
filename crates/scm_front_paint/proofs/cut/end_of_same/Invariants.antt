use Rattle.std.proofs.Common.{◌≡◌, ℕ, ◌+◌, ◌-◌, ◌<◌, ◌≤◌}
use Rattle.scm_cells.specs.Symbols.{symbol_in}
use Rattle.scm_front_paint.proofs.cut.end_of_same.Given as goal

abbrev pub invariant-letters : goal.invariant-letters
invariant-letters l = record {
  low : l.from ≤ l.column;
  same : (c : ℕ) → l.from ≤ c → c < l.column → symbol_in l.columns c ≡ symbol_in l.others (l.x + c);
}

abbrev pub decreases-letters : goal.decreases-letters
decreases-letters l = l.stop - l.column
