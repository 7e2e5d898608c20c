-- Words: the parts in which a removed line and the added line that replaces it differ are set off.
use Rattle.std.specs.Prelude.{◌≡◌, ◌<◌, ℕ, ◌+◌, ◌-◌, min, ◌==◌, nat_le, nat_lt, Bool, true, false, ◌&&◌, not, if◌then◌else◌, List, [], length, map, take, slice_get, slice_index_or, sum_by, Option, Some, None, is_some}
use Rattle.std.specs.List.{list_any}
use Rattle.std.specs.Str.{IsCharBoundary}
use Rattle.scm_types.specs.declared.file.File.{File}
use Rattle.scm_types.specs.declared.line.ChangeType.{ChangeType}
use Rattle.scm_types.specs.declared.line.ChangeType.TheVariants.{Added, Removed}
use Rattle.scm_types.specs.declared.line.SectionChangedLine.{SectionChangedLine}
use Rattle.scm_types.specs.declared.section.Section.{Section}
use Rattle.scm_types.specs.declared.section.Section.TheVariants as sections
use Rattle.scm_types.specs.declared.keys.LineKey.{LineKey}
use Rattle.scm_cells.specs.Clusters.{text_width}
use Rattle.scm_cells.specs.Replaced.{line_pieces}
use Rattle.scm_cells.specs.declared.style.Style.{Style}
use Rattle.scm_diff.specs.Words.{AreFew, AreSpans}
use Rattle.scm_diff.specs.declared.words.WordSpan.{WordSpan}
use Rattle.scm_document.specs.declared.commit_view.CommitViewMode.{CommitViewMode}
use Rattle.scm_document.specs.declared.commit_view.CommitViewMode.TheVariants.{Inline, Adjacent}
use Rattle.scm_record.specs.Frames.{columns_of, scene_of}
use Rattle.scm_record.specs.Live.{Live}
use Rattle.scm_record.specs.ShownLines.{line_on}
use Rattle.scm_front_paint.specs.declared.columns.Columns.{Columns}
use Rattle.scm_front_paint.specs.Pane.{is_free}

-- ---- pairs of lines

-- a removed line, the added line that replaces it, and which of them is meant
pub record Pair : Type 0 where
  pub old : List ℕ
  pub new : List ℕ
  pub is_old : Bool

-- the pair of two lines, if the first is removed and the second added
abbrev pub pair_of_kinds : Bool → ChangeType → List ℕ → ChangeType → List ℕ → Option Pair
pair_of_kinds is_old Removed old Added new = Some (record { old = old; new = new; is_old = is_old })
pair_of_kinds is_old Removed old Removed new = None
pair_of_kinds is_old Added old Added new = None
pair_of_kinds is_old Added old Removed new = None

abbrev pub pair_of_both : Bool → Option SectionChangedLine → Option SectionChangedLine → Option Pair
pair_of_both is_old None second = None
pair_of_both is_old (Some first) None = None
pair_of_both is_old (Some first) (Some second) = pair_of_kinds is_old first.change_type first.line second.change_type second.line

-- the pair of lines `line` and `line + 1`, counted from 0
abbrev pub pair_at : Bool → List SectionChangedLine → ℕ → Option Pair
pair_at is_old lines line = pair_of_both is_old (slice_get lines line) (slice_get lines (line + 1))

abbrev pub or_before : Option Pair → List SectionChangedLine → ℕ → Option Pair
or_before (Some pair) lines line = Some pair
or_before None lines line = if line == 0 then None else pair_at false lines (line - 1)

-- the pair of line `line`: with the line behind it, or with the one before it
abbrev pub pair_of : List SectionChangedLine → ℕ → Option Pair
pair_of lines line = or_before (pair_at true lines line) lines line

abbrev pub pair_in_section : Option Section → ℕ → Option Pair
pair_in_section None line = None
pair_in_section (Some (sections.Unchanged lines)) line = None
pair_in_section (Some (sections.Changed lines)) line = pair_of lines line
pair_in_section (Some (sections.FileMode is_checked mode)) line = None
pair_in_section (Some (sections.Binary is_checked old new)) line = None

abbrev pub pair_in_file : Option File → LineKey → Option Pair
pair_in_file None key = None
pair_in_file (Some file) key = pair_in_section (slice_get file.sections key.section_idx) key.line_idx

-- the pair of the line that a key names, if it has one
abbrev pub pair_of_key : List File → LineKey → Option Pair
pair_of_key files key = pair_in_file (slice_get files key.file_idx) key

-- ---- columns

-- the columns that a text takes on the screen, with its replacements
abbrev pub shown_width : List ℕ → ℕ
shown_width text = sum_by text_width (line_pieces text)

-- the column of the window at which byte `at` of a line stands: behind the sign of the line, which ends before column 10
abbrev pub column_of : List ℕ → ℕ → ℕ
column_of text at = shown_width (take at text) + 10

-- the columns of bytes `start..end` in a window that ends before column `edge`: what stands behind the edge ends or begins there
abbrev pub columns_of_bytes : ℕ → List ℕ → ℕ → ℕ → Columns
columns_of_bytes edge text start end = record { start = min edge (column_of text start); end = min edge (column_of text end) }

-- the columns of a differing part in that window
abbrev pub columns_of_span : ℕ → Bool → List ℕ → List ℕ → WordSpan → Columns
columns_of_span edge true old new span = columns_of_bytes edge old span.old_start span.old_end
columns_of_span edge false old new span = columns_of_bytes edge new span.new_start span.new_end

-- the ends of a differing part are borders of characters
pub record HasBorders (old new : List ℕ) (span : WordSpan) : Type 0 where
  pub old_first : IsCharBoundary old span.old_start
  pub old_last : IsCharBoundary old span.old_end
  pub new_first : IsCharBoundary new span.new_start
  pub new_last : IsCharBoundary new span.new_end

-- the columns are those of the parts in which the lines of a pair differ, in a window that ends before column `edge`
pub record AreColumns (edge : ℕ) (old new : List ℕ) (is_old : Bool) (columns : List Columns) : Type 0 where
  pub spans : List WordSpan
  pub are_spans : AreSpans old new spans
  pub are_few : AreFew old new spans
  pub columns_are : columns ≡ map (columns_of_span edge is_old old new) spans

-- ---- rows

abbrev pub is_inline : CommitViewMode → Bool
is_inline Inline = true
is_inline Adjacent = false

-- whether nothing lies over the lines: no dialog and no menu is open, and one commit is shown
abbrev pub is_bare : Live → Bool
is_bare l = is_free l && (not (is_some l.session.shown.open_menu) && is_inline l.session.shown.view_mode)

abbrev pub pair_of_line : List File → Option LineKey → Option Pair
pair_of_line files None = None
pair_of_line files (Some key) = pair_of_key files key

-- the files whose lines have pairs: none if something lies over the lines
abbrev pub files_with_pairs : Live → List File
files_with_pairs l = if is_bare l then l.session.shown.state.files else []

-- the pair of the line on row `row` of the screen
abbrev pub pair_on : Live → ℕ → Option Pair
pair_on l row = if is_bare l then pair_of_line l.session.shown.state.files (line_on l row) else None

-- the columns are those that are set off for a pair, if there is one, in a window that ends before column `edge`
abbrev pub AreColumnsFor : ℕ → Option Pair → List Columns → Type 0
AreColumnsFor edge None columns = columns ≡ []
AreColumnsFor edge (Some pair) columns = AreColumns edge pair.old pair.new pair.is_old columns

-- the columns that are set off on each row of the screen, up to its last column
pub record AreWords (l : Live) (words : List (List Columns)) : Type 0 where
  pub many : length words ≡ length (scene_of l.kind l.session).frame.rows
  pub on : (row : ℕ) → row < length words → AreColumnsFor (columns_of l.kind) (pair_on l row) (slice_index_or words row [])

-- ---- styles

-- whether columns have column `c`
abbrev pub has_column : ℕ → Columns → Bool
has_column c columns = nat_le columns.start c && nat_lt c columns.end

-- what is set off is bold and underlined
abbrev pub set_off : Bool → Style → Style
set_off is_apart style = if is_apart then record style { bold = true; underlined = true } else style

-- the style of a place, with the columns that are set off on its row
abbrev pub with_words : List Columns → ℕ → Style → Style
with_words columns c style = set_off (list_any (has_column c) columns) style
