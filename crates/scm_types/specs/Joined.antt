-- Texts joined from lines.
use Rattle.std.specs.Prelude.{ℕ, List, [], Bool, false, length, nat_lt, ◌++◌, ◌||◌}
use Rattle.std.specs.List.{concat}

-- a text joined from lines, and whether there is a line, which can be empty
pub record Joined : Type 0 where
  pub text : List ℕ
  pub has_line : Bool

-- the text without lines
abbrev pub no_lines : Joined
no_lines = record { text = []; has_line = false }

-- the text j with these lines added at the end
abbrev pub with_lines : Joined → List (List ℕ) → Joined
with_lines j lines = record { text = j.text ++ concat lines; has_line = j.has_line || nat_lt 0 (length lines) }

-- the text of these lines
abbrev pub text_of_lines : List (List ℕ) → Joined
text_of_lines lines = with_lines no_lines lines
