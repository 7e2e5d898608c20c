use Rattle.std.proofs.Common.{◌≡◌, length}
use Rattle.scm_terminal.proofs.row.Row.new.Given as goal

abbrev pub invariant-loop : goal.invariant-loop
invariant-loop l = length l.cells.items ≡ l.counter
