-- What the inline view draws: one document below the menu bar, and what lies over it.
use Rattle.std.proofs.Common.{ℕ, pos, ◌+ℤ◌}
use Rattle.std.specs.Prelude.{Some, None}
use Rattle.scm_cells.specs.declared.mask.Mask.{Mask}

-- the rows below the menu bar, on a screen of w columns at row s
abbrev pub below_bar : ℕ → ℕ → Mask
below_bar w s = record { x = pos 0; y = pos s +ℤ pos 1; width = Some w; height = None }
