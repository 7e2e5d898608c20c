-- The spans on the rows of a screen.
use Rattle.std.specs.Prelude.{ℕ, nat_eq, Bool, false, ◌&&◌, List, [], ◌∷◌, slice_get, Option, Some, None, if◌then◌else◌}
use Rattle.std.specs.Cmp.Lexicographic.{pointwise}
use Rattle.scm_types.specs.declared.file.File.{File}
use Rattle.scm_types.specs.declared.keys.LineKey.{LineKey}
use Rattle.scm_types.specs.declared.line.SectionChangedLine.{SectionChangedLine}
use Rattle.scm_types.specs.declared.section.Section.{Section}
use Rattle.scm_types.specs.declared.section.Section.TheVariants as sections
use Rattle.scm_cells.specs.Symbols.{symbol_at}
use Rattle.scm_record.specs.Live.{Live}
use Rattle.scm_record.specs.Painted.{screen_of}
use Rattle.scm_record.specs.ShownLines.{line_on}
use Rattle.scm_front_paint.specs.declared.runs.LineRuns.{LineRuns}
use Rattle.scm_front_paint.specs.declared.runs.Run.{Run}
use Rattle.scm_front_paint.specs.Syntax.{Lines, first_key, line_with}
use Rattle.scm_front_paint.specs.Words.{is_bare}

-- ---- the text of a line

abbrev pub text_of_changed : Option SectionChangedLine → Option (List ℕ)
text_of_changed None = None
text_of_changed (Some line) = Some line.line

abbrev pub text_in_section : Option Section → ℕ → Option (List ℕ)
text_in_section None line = None
text_in_section (Some (sections.Unchanged lines)) line = slice_get lines line
text_in_section (Some (sections.Changed lines)) line = text_of_changed (slice_get lines line)
text_in_section (Some (sections.FileMode is_checked mode)) line = None
text_in_section (Some (sections.Binary is_checked old new)) line = None

abbrev pub text_in_file : Option File → LineKey → Option (List ℕ)
text_in_file None key = None
text_in_file (Some file) key = text_in_section (slice_get file.sections key.section_idx) key.line_idx

-- the text of the line that a key names, if it names one: a changed line, or one of context
abbrev pub text_of_key : List File → LineKey → Option (List ℕ)
text_of_key files key = text_in_file (slice_get files key.file_idx) key

-- ---- rows

abbrev pub is_blank : Option (List ℕ) → Bool
is_blank None = false
is_blank (Some symbol) = pointwise nat_eq symbol (32 ∷ [])

-- whether column 9 of a row is blank
abbrev pub has_blank : Live → ℕ → Bool
has_blank l row = is_blank (symbol_at (screen_of l).rows row 9)

-- the line whose text row `row` of the screen shows from column 10 on, if nothing lies over the lines: column 9 is blank there, but behind
-- a number of more than five digits
abbrev pub line_at : Live → ℕ → Option LineKey
line_at l row = if is_bare l && has_blank l row then line_on l row else None

-- the spans of a line that still has the text for which they were set
abbrev pub runs_for : Option LineRuns → Option (List ℕ) → List Run
runs_for None text = []
runs_for (Some line) None = []
runs_for (Some line) (Some text) = if pointwise nat_eq line.text text then line.runs else []

abbrev pub runs_of_line : Lines → List File → Option LineKey → List Run
runs_of_line lines files None = []
runs_of_line lines files (Some key) = runs_for (line_with lines (first_key key)) (text_of_key files key)

-- the spans on row `row` of the screen
abbrev pub runs_on : Lines → Live → ℕ → List Run
runs_on lines l row = runs_of_line lines l.session.shown.state.files (line_at l row)
