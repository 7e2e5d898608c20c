-- A terminal without clusters: it adds up the columns of the code points of a symbol. It wraps a
-- code point without room, whether symbols wrap or not.
use Rattle.std.specs.Prelude.{ℕ, ◌+◌, ◌≤◌, List, [], ◌∷◌, sum_by}
use Rattle.std.specs.Str.{chars}
use Rattle.scm_terminal.specs.Terminal.{Command, MoveTo, SetStyle, Put, SetWrap}

-- the columns of `symbol`, if the code point `c` has `columns c`
abbrev pub columns_by : (ℕ → ℕ) → List ℕ → ℕ
columns_by columns symbol = sum_by columns (chars symbol)

-- No code point wraps on a terminal of `width` columns, which gives the code point `c` `columns c`
-- columns: each symbol has room from the column where the one before it ended. The cursor is at
-- column `at` before the commands.
abbrev pub NoneWraps : (ℕ → ℕ) → ℕ → ℕ → List Command → Type 0
NoneWraps columns width at [] = Unit {0}
NoneWraps columns width at (MoveTo row column ∷ cs) = NoneWraps columns width column cs
NoneWraps columns width at (SetStyle style ∷ cs) = NoneWraps columns width at cs
NoneWraps columns width at (Put symbol own ∷ cs) =
    (at + columns_by columns symbol ≤ width)
    × NoneWraps columns width (at + columns_by columns symbol) cs
NoneWraps columns width at (SetWrap wraps ∷ cs) = NoneWraps columns width at cs
