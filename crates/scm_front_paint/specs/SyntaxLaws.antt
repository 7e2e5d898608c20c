-- What spans leave as it is.
use Rattle.std.specs.Prelude.{◌≡◌, ◌⊎◌, ℕ, ◌<◌, ◌≤◌, List, map, length, Option, Some}
use Rattle.scm_types.specs.declared.keys.LineKey.{LineKey}
use Rattle.scm_terminal.specs.StyledCell.{StyledCell, symbol_of_cell}
use Rattle.scm_record.specs.Live.{Live}
use Rattle.scm_front_paint.specs.declared.runs.LineRuns.{LineRuns}
use Rattle.scm_front_paint.specs.Syntax.{Lines, first_key, line_with}
use Rattle.scm_front_paint.specs.SyntaxRows.{line_at, runs_on, text_of_key}
use Rattle.scm_front_paint.specs.Words.{column_of}

-- the symbols of a picture, without their styles
abbrev pub symbols_shown : List (List StyledCell) → List (List (Option (List ℕ)))
symbols_shown rows = map (λ cells. map symbol_of_cell cells) rows

-- the line that row `row` shows has the same spans among both
abbrev pub AreAlikeOn : Lines → Lines → Live → ℕ → Type 0
AreAlikeOn one other l row = (key : LineKey) → line_at l row ≡ Some key → line_with one (first_key key) ≡ line_with other (first_key key)

-- row `row` shows a line that has spans, with the text for which they were set
pub record ShowsSpans (lines : Lines) (l : Live) (row : ℕ) : Type 0 where
  pub key : LineKey
  pub line : LineRuns
  pub shown : line_at l row ≡ Some key
  pub has : line_with lines (first_key key) ≡ Some line
  pub text : text_of_key l.session.shown.state.files key ≡ Some line.text
  pub runs : runs_on lines l row ≡ line.runs

-- column `c` is no column of a line's text
abbrev pub IsBeside : List ℕ → ℕ → Type 0
IsBeside text c = (c < 10) ⊎ (column_of text (length text) ≤ c)
