-- The value of what is set off in a line.
use Rattle.std.specs.Prelude.{ℕ, Bool, List}
use Rattle.scm_front_paint.specs.declared.columns.Columns.{Columns}

-- the lines of a pair, which of them is meant, the column before which the window ends, and the columns of the words that differ in it: the
-- value of the code's `LineWords`
pub record LineValue : Type 0 where
  pub old : List ℕ
  pub new : List ℕ
  pub is_old : Bool
  pub edge : ℕ
  pub columns : List Columns
