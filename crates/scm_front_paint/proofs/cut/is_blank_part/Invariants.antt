use Rattle.std.proofs.Common.{◌≡◌, ℕ, ◌<◌, [], ◌∷◌, Some}
use Rattle.scm_cells.specs.Symbols.{symbol_at}
use Rattle.scm_front_paint.proofs.cut.is_blank_part.Given as goal

abbrev pub invariant-loop-column : goal.invariant-loop-column
invariant-loop-column l = (c : ℕ) → c < l.column → symbol_at l.own.grid.now.rows l.own.row c ≡ Some (32 ∷ [])
