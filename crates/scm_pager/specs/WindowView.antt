-- What contracts see of a window: its lines as a list.
use Rattle.std.specs.Prelude.{ℕ, List}
use Rattle.scm_pager.specs.declared.lines.SideLine.{SideLine}

-- a window of lines
pub record Shown : Type 0 where
  -- the first line that is shown, counted from 0
  pub top : ℕ
  -- how many lines are still to come before it
  pub before : ℕ
  -- the most lines that are shown
  pub height : ℕ
  -- how many lines were offered
  pub count : ℕ
  -- the lines that are shown
  pub rows : List SideLine
