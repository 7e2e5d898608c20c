-- Lines joined to a text, and the text of a side of a file.
use Rattle.std.specs.Prelude.{◌≡◌, ℕ, ◌==◌, List, [], ◌∷◌, ◌++◌, Bool, false, not, if◌then◌else◌}
use Rattle.std.specs.List.{concat}
use Rattle.scm_types.specs.declared.file.File.{File}
use Rattle.scm_types.specs.Split.{side_lines}
use Rattle.scm_embed.specs.Lines.{lines_of}

-- whether the text ends with a line end (the byte 10)
abbrev pub has_line_end : List ℕ → Bool
has_line_end [] = false
has_line_end (b ∷ []) = b == 10
has_line_end (b ∷ c ∷ bs) = has_line_end (c ∷ bs)

-- the line with its line end, which is added if it has none
abbrev pub with_line_end : List ℕ → List ℕ
with_line_end line = if has_line_end line then line else line ++ 10 ∷ []

-- the lines, each but the last with its line end
abbrev pub with_line_ends : List (List ℕ) → List (List ℕ)
with_line_ends [] = []
with_line_ends (l ∷ []) = l ∷ []
with_line_ends (l ∷ m ∷ ls) = with_line_end l ∷ with_line_ends (m ∷ ls)

-- the lines joined to a text: a line end is added where a line without one is not the last
abbrev pub text_of : List (List ℕ) → List ℕ
text_of lines = concat (with_line_ends lines)

-- the text of a side of the file: the selected side if `selected`, or the other one
abbrev pub side_text : Bool → File → List ℕ
side_text selected file = text_of (side_lines selected file)

-- the text is one line: it has a byte, and no line end but at its end
abbrev pub IsLine : List ℕ → Type 0
IsLine text = lines_of text ≡ text ∷ []

-- A text that is joined line by line.
pub record TextSoFar : Type 0 where
  pub text : List ℕ
  -- whether its last line has no line end
  pub is_open : Bool

-- the text without lines
abbrev pub nothing_yet : TextSoFar
nothing_yet = record { text = []; is_open = false }

-- the text, with a line end if its last line has none
abbrev pub closed_text : TextSoFar → List ℕ
closed_text j = if j.is_open then j.text ++ 10 ∷ [] else j.text

-- the text with one more line
abbrev pub with_line : TextSoFar → List ℕ → TextSoFar
with_line j line = record { text = closed_text j ++ line; is_open = not (has_line_end line) }

-- the text with more lines
abbrev pub with_lines : TextSoFar → List (List ℕ) → TextSoFar
with_lines j [] = j
with_lines j (l ∷ ls) = with_lines (with_line j l) ls
