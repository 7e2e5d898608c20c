-- Cells of which a pass puts nothing.
use Rattle.std.specs.Prelude.{◌≡◌, ℕ, Bool, Option, None}
use Rattle.scm_cells.specs.declared.style.Style.{Style}
use Rattle.scm_terminal.specs.declared.pen.Pass.{Pass}
use Rattle.scm_terminal.specs.Painting.{passed}
use Rattle.scm_terminal.specs.Sent.{blank_after, sent_cell}
use Rattle.scm_terminal.specs.StyledCell.{StyledCell, Later}

-- wherever the cell is, the pass puts nothing of it, and no blanks follow it
pub record IsPassedOver (pass : Pass) (cell : StyledCell) : Type 0 where
  pub puts_nothing : (is_there : Bool) (width column : ℕ) (blank : Option Style) → passed pass is_there (sent_cell width column blank cell) ≡ Later
  pub no_blanks : (width column : ℕ) (blank : Option Style) → blank_after width column blank cell ≡ None
