-- Syntax: what a host says of the parts of a line, and how it looks.
use Rattle.std.specs.Prelude.{◌≡◌, ℕ, nat_eq, nat_le, nat_lt, Bool, true, ◌&&◌, ◌||◌, List, [], ◌∷◌, length, map, min, slice_index_or, Option, Some, None, if◌then◌else◌}
use Rattle.std.specs.Map.{lookup}
use Rattle.scm_types.specs.declared.keys.LineKey.{LineKey}
use Rattle.scm_cells.specs.declared.style.Colour.TheVariants.{Cyan, Magenta, Yellow}
use Rattle.scm_cells.specs.declared.style.Style.{Style}
use Rattle.scm_terminal.specs.Style.{plain_style}
use Rattle.scm_front_paint.specs.declared.syntax.Syntax.{Syntax}
use Rattle.scm_front_paint.specs.declared.syntax.Syntax.TheVariants.{Comment, Keyword, Name, Number, Other, Text}
use Rattle.scm_front_paint.specs.declared.syntax.SyntaxSpan.{SyntaxSpan}
use Rattle.scm_front_paint.specs.declared.runs.LineRuns.{LineRuns}
use Rattle.scm_front_paint.specs.declared.runs.Run.{Run}
use Rattle.scm_front_paint.specs.Words.{column_of, columns_of_bytes, has_column}

-- ---- styles

-- The table of styles. No colour is green or red, which are those of added and removed lines.
abbrev pub syntax_style : Syntax → Style
syntax_style Keyword = record plain_style { bold = true }
syntax_style Name = record plain_style { colour = Some Cyan }
syntax_style Text = record plain_style { colour = Some Yellow }
syntax_style Number = record plain_style { colour = Some Magenta }
syntax_style Comment = record plain_style { dim = true }
syntax_style Other = plain_style

-- what a style becomes where a span has the style `own`: a reversed one, which is that of the selected line, stays
abbrev pub in_syntax : Style → Style → Style
in_syntax own style = if style.reversed then style else own

-- ---- the columns of spans

-- whether byte `at` of a text begins a character, or is the text's end
abbrev pub is_border : List ℕ → ℕ → Bool
is_border text at =
    nat_eq at (length text) || (nat_lt at (length text) && (nat_lt (slice_index_or text at 0) 128 || nat_le 192 (slice_index_or text at 0)))

-- where a span begins or ends: a place past the end of the text, or inside a character, counts as the end
abbrev pub border : List ℕ → ℕ → ℕ
border text at = if is_border text at then at else length text

-- the column of the window before which the text of a line ends, at most 65,535, which no window is wider than
abbrev pub line_end : List ℕ → ℕ
line_end text = min 65535 (column_of text (length text))

-- the columns of a span, and its style
abbrev pub run_of : List ℕ → SyntaxSpan → Run
run_of text span = record {
  columns = columns_of_bytes (line_end text) text (border text span.start) (border text span.end);
  style = syntax_style span.syntax;
}

-- a line with its spans
abbrev pub line_runs : List ℕ → List SyntaxSpan → LineRuns
line_runs text spans = record { text = text; runs = map (run_of text) spans }

-- the style at column `c`, with a run
abbrev pub in_run : Run → ℕ → Style → Style
in_run run c style = if has_column c run.columns then in_syntax run.style style else style

-- the style at column `c`, with runs: where they overlap, the last one counts
abbrev pub with_runs : List Run → ℕ → Style → Style
with_runs [] c style = style
with_runs (run ∷ runs) c style = with_runs runs c (in_run run c style)

-- ---- lines

-- the lines that have spans, by their keys in the first commit
abbrev pub Lines : Type 0
Lines = List (LineKey × LineRuns)

-- the key of line `line` of section `section` of file `file`
abbrev pub key_of : ℕ → ℕ → ℕ → LineKey
key_of file section line = record { commit_idx = 0; file_idx = file; section_idx = section; line_idx = line }

-- the key in the first commit
abbrev pub first_key : LineKey → LineKey
first_key key = key_of key.file_idx key.section_idx key.line_idx

-- whether two keys are equal
abbrev pub is_line : LineKey → LineKey → Bool
is_line a b =
    nat_eq a.commit_idx b.commit_idx && (nat_eq a.file_idx b.file_idx && (nat_eq a.section_idx b.section_idx && nat_eq a.line_idx b.line_idx))

-- the line with a key, if it has spans
abbrev pub line_with : Lines → LineKey → Option LineRuns
line_with lines key = lookup (is_line key) lines

-- the lines `new` are `old` with the spans of one more line, in place of those that it had
abbrev pub IsWithLine : LineKey → LineRuns → Lines → Lines → Type 0
IsWithLine key line old new = (other : LineKey) → line_with new other ≡ (if is_line key other then Some line else line_with old other)

-- the same for a line with the text `text`; without a text nothing changes, since the key names no line
abbrev pub IsWithSpans : LineKey → Option (List ℕ) → List SyntaxSpan → Lines → Lines → Type 0
IsWithSpans key None spans old new = new ≡ old
IsWithSpans key (Some text) spans old new = IsWithLine key (line_runs text spans) old new
