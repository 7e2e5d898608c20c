-- What the code's values of words represent.
use Rattle.std.specs.Prelude.{◌≡◌, ◌+◌, ◌<◌, ◌^◌, ℕ, List, [], IfSome, Option, Some, None}
use Rattle.scm_record.specs.Live.{Live}
use Rattle.scm_record.specs.ShownLines.{line_after, line_on}
use Rattle.scm_front_paint.specs.Words.{Pair}
use Rattle.scm_front_paint.specs.LineValue.{LineValue}
use Rattle.scm_front_paint.specs.declared.columns.Columns.{Columns}
use Rattle.scm_front_paint.specs.declared.pairs.PairOfLines.{PairOfLines}
use Rattle.scm_front_paint.specs.declared.words.Stretch.{Stretch}

-- the pair of the code's value
abbrev pub pair_value : PairOfLines → Pair
pair_value p = record { old = p.old.now; new = p.new.now; is_old = p.is_old }

-- the columns that are set off on a row
abbrev pub columns_in : Option LineValue → List Columns
columns_in None = []
columns_in (Some words) = words.columns

-- the words were found for this pair, in a window that ends before column `edge`
pub record AreFor (edge : ℕ) (words : LineValue) (pair : Pair) : Type 0 where
  pub is_window : words.edge ≡ edge
  pub old : words.old ≡ pair.old
  pub new : words.new ≡ pair.new
  pub is_old : words.is_old ≡ pair.is_old

-- the rows of a stretch show its lines
pub record IsStretch (l : Live) (s : Stretch) : Type 0 where
  pub lines : (n : ℕ) → n < s.lines.rows → line_on l (s.top + n) ≡ line_after s.lines n
  pub low : (n : ℕ) → n < s.lines.rows → IfSome s.lines.first (λ first. first.line_idx + n < 2 ^ 64)
