use Rattle.std.proofs.Common.{◌≡◌, ◌++◌, ◌∷◌, take, string_bytes}
use Rattle.std.specs.List.{concat}
use Rattle.scm_cells.proofs.RowLemmas.{symbols}
use Rattle.scm_cells.proofs.row.push_row.Given as goal

abbrev pub invariant-loop-column : goal.invariant-loop-column
invariant-loop-column l = string_bytes l.text ≡ string_bytes l.fn.text ++ 34 ∷ concat (symbols (take l.column-index l.columns))
