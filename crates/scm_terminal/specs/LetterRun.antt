-- Letters that follow one another in one style.
use Rattle.std.specs.Prelude.{◌≡◌, ℕ, ◌==◌, ◌<◌, List, [], ◌∷◌, ◌++◌, true, drop, if◌then◌else◌, Option, None}
use Rattle.std.specs.List.{flat_map}
use Rattle.scm_cells.specs.declared.style.Style.{Style}
use Rattle.scm_terminal.specs.declared.pen.Pen.{Pen}
use Rattle.scm_terminal.specs.declared.pen.Pass.{Pass}
use Rattle.scm_terminal.specs.declared.pen.Pass.TheVariants.{Letters}
use Rattle.scm_terminal.specs.Painting.{is_style_set, pass_commands}
use Rattle.scm_terminal.specs.Sent.{sent_from}
use Rattle.scm_terminal.specs.StyledCell.{StyledCell, First}
use Rattle.scm_terminal.specs.Terminal.{bytes_of}

-- the pass puts the letter b of a cell where the pen is, in the terminal's style
pub record IsLetterHere (pen : Pen) (pass : Pass) (cell : StyledCell) (b : ℕ) : Type 0 where
  pub is_pass : pass ≡ Letters
  pub is_there : pen.is_there ≡ true
  pub style : Style
  pub is_set : is_style_set pen.style style ≡ true
  pub is_it : cell ≡ First (b ∷ []) style
  pub ascii : b < 128

-- the bytes of a pass for the cells of row `row` from `column` on; the row has w columns
abbrev pub bytes_from : ℕ → Pass → ℕ → ℕ → Pen → Option Style → List StyledCell → List ℕ
bytes_from w pass row column pen blank cells =
    flat_map bytes_of (pass_commands pass row column pen (sent_from w column blank (drop column cells)))

-- the style of the blanks that follow: none behind a letter
abbrev pub blank_behind : ℕ → ℕ → Option Style → Option Style
blank_behind from end blank = if end == from then blank else None

-- text `now` has, behind text `was`, the bytes of the cells from..end, behind which the pen is as before them
abbrev pub ArePushed : Pass → Pen → List StyledCell → ℕ → List ℕ → ℕ → List ℕ → Type 0
ArePushed pass pen cells from was end now = (w row : ℕ) (blank : Option Style) (all : List ℕ)
    → was ++ bytes_from w pass row from pen blank cells ≡ all
    → now ++ bytes_from w pass row end pen (blank_behind from end blank) cells ≡ all
