-- The rows of the document: what each row of a section, of a file and of a commit shows.
use Rattle.std.specs.Prelude.{ℕ, suc, ◌+◌, ◌-◌, ◌^◌, min, ◌==◌, List, [], ◌∷◌, ◌++◌, length, take, drop, get_or, map, Bool, true, false, if◌then◌else◌, Option, Some, None, option_map}
use denote.Ref.{Bor}
use Rattle.scm_types.specs.declared.line.SectionChangedLine.{SectionChangedLine}
use Rattle.scm_types.specs.declared.section.Section.{Section}
use Rattle.scm_types.specs.declared.section.Section.TheVariants.{Unchanged, Changed, FileMode, Binary}
use Rattle.scm_types.specs.declared.tristate.Tristate.{Tristate}
use Rattle.scm_types.specs.declared.tristate.Tristate.TheVariants as tristate
use Rattle.scm_types.specs.Keys.{line_key_of}
use Rattle.scm_cells.specs.Replaced.{line_pieces}
use Rattle.scm_types.specs.declared.keys.FileKey.{FileKey}
use Rattle.scm_types.specs.declared.keys.SectionKey.{SectionKey}
use Rattle.scm_types.specs.declared.keys.LineKey.{LineKey}
use Rattle.scm_types.specs.declared.keys.SelectionKey.TheVariants as selection
use Rattle.scm_widgets.specs.declared.ids.ComponentId.{ComponentId}
use Rattle.scm_widgets.specs.declared.ids.ComponentId.TheVariants as ids
use Rattle.scm_widgets.specs.declared.tristate_box.TristateIconStyle.TheVariants as style
use Rattle.scm_document.specs.declared.file_view_header.FileViewHeader.{FileViewHeader}
use Rattle.scm_document.specs.declared.section_view.SectionSelection.{SectionSelection}
use Rattle.scm_document.specs.declared.section_view.SectionSelection.TheVariants.{SectionHeader, ChangedLine}
use Rattle.scm_document.specs.declared.section_view.SectionView.{SectionView}
use Rattle.scm_document.specs.declared.section_line_view.SectionLineView.{SectionLineView}
use Rattle.scm_document.specs.declared.section_line_view.SectionLineViewInner.{SectionLineViewInner}
use Rattle.scm_document.specs.declared.section_line_view.SectionLineViewInner.TheVariants as inner
use Rattle.scm_document.specs.declared.file_view.FileView.{FileView}
use Rattle.scm_document.specs.declared.commit_view.CommitView.{CommitView}
use Rattle.scm_rows.specs.declared.section_place.SectionPlace.{SectionPlace}
use Rattle.scm_rows.specs.Context.{first_below, has_dots, lines_above, place}
use Rattle.scm_rows.specs.Heights.{height_of, is_section_open, is_section_visible, shape_of}
use Rattle.scm_rows.specs.Kinds.{line_of, row_kind}
use Rattle.scm_document.specs.Texts.{path_text, section_text, mode_change_text, binary_text, number_text, sign_text, dots_text}
use Rattle.scm_widgets.specs.Boxes.{IdBox, is_fold_open}

-- the component id of file k
abbrev pub file_id : FileKey → ComponentId
file_id k = ids.SelectableItem (selection.File k)

-- the component id of section k
abbrev pub section_id : SectionKey → ComponentId
section_id k = ids.SelectableItem (selection.Section k)

-- the component id of line k
abbrev pub line_id : LineKey → ComponentId
line_id k = ids.SelectableItem (selection.Line k)

-- what a header row shows, of a file or of a section: two boxes, and a title between them
pub record Heading : Type 0 where
  -- the checkbox
  pub toggle : IdBox
  -- the fold box
  pub fold : IdBox
  -- the title's text
  pub title : List ℕ

-- a row of the document; a Bool says whether the section itself is selected
pub data DocRow : Type 0 where
  -- the header of a file
  HeaderRow : FileKey → Heading → DocRow
  -- the header of a section of changed lines
  SectionRow : Bool → Heading → DocRow
  -- a changed line: its checkbox and its texts
  LineRow : LineKey → IdBox → List (List ℕ) → DocRow
  -- a `FileMode` or `Binary` section: its checkbox and its text
  MarkRow : Bool → IdBox → List ℕ → DocRow
  -- a line of context: its texts
  ContextRow : LineKey → List (List ℕ) → DocRow
  -- the dots that replace hidden lines of context
  DotsRow : List ℕ → DocRow
  -- the only row of a section of context without lines
  BlankRow : DocRow

-- ---- the rows of a section

-- the texts of a line: its number or sign, and the line as a screen can show it
abbrev pub line_texts : List ℕ → List ℕ → List (List ℕ)
line_texts front line = front ∷ line_pieces line

-- the checkbox state of a mark
abbrev pub mark_of : Bool → Tristate
mark_of checked = if checked then tristate.True else tristate.False

-- whether the section itself is selected
abbrev pub is_header_selected : Option SectionSelection → Bool
is_header_selected None = false
is_header_selected (Some SectionHeader) = true
is_header_selected (Some (ChangedLine line)) = false

-- whether line n of the section is selected
abbrev pub is_line_selected : ℕ → Option SectionSelection → Bool
is_line_selected n None = false
is_line_selected n (Some SectionHeader) = false
is_line_selected n (Some (ChangedLine line)) = line == n

-- whether section v itself is selected
abbrev pub is_selected : SectionView → Bool
is_selected v = is_header_selected v.selection

-- the checkbox of a `FileMode` or `Binary` section
abbrev pub section_box : SectionView → Bool → IdBox
section_box v checked = record {
  use_unicode = v.use_unicode;
  is_focused = is_selected v;
  is_read_only = v.is_read_only;
  id = ids.ToggleBox (selection.Section v.section_key);
  tristate = mark_of checked;
  icon_style = style.Check;
}

-- the checkbox of changed line `line`
abbrev pub line_box : SectionView → ℕ → Bool → IdBox
line_box v line checked = record {
  use_unicode = v.use_unicode;
  is_focused = is_line_selected line v.selection;
  is_read_only = v.is_read_only;
  id = ids.ToggleBox (selection.Line (line_key_of v.section_key line));
  tristate = mark_of checked;
  icon_style = style.Check;
}

-- the rows of lines, the first of which has index i; `row` makes a line's row of its index and the line
unfoldable pub rows_of_lines : {L : Type 0} → (ℕ → L → DocRow) → ℕ → List L → List DocRow
rows_of_lines row i [] = []
rows_of_lines row i (l ∷ ls) = row i l ∷ rows_of_lines row (suc i) ls

-- the row of changed line l, which has index i
abbrev pub changed_row : SectionView → ℕ → SectionChangedLine → DocRow
changed_row v i l = LineRow (line_key_of v.section_key i) (line_box v i l.is_checked) (line_texts (sign_text l.change_type) l.line)

-- the rows of changed lines, the first of which has index i
abbrev pub changed_rows : SectionView → ℕ → List SectionChangedLine → List DocRow
changed_rows v i ls = rows_of_lines (changed_row v) i ls

-- the number of the line of context at `index`, if the first line has number `start`; it saturates at 2^64 - 1
abbrev pub line_number : ℕ → ℕ → ℕ
line_number start index = min (start + index) (2 ^ 64 - 1)

-- the row of line of context l, which has index i
abbrev pub numbered_row : SectionView → ℕ → List ℕ → DocRow
numbered_row v i l = ContextRow (line_key_of v.section_key i) (line_texts (number_text (line_number v.line_start_num i)) l)

-- the rows of lines of context, the first of which has index i
abbrev pub numbered_rows : SectionView → ℕ → List (List ℕ) → List DocRow
numbered_rows v i ls = rows_of_lines (numbered_row v) i ls

-- the row that line view w shows
abbrev pub view_row : SectionLineView → DocRow
view_row w = inner_row w.line_key w.inner
  where
    inner_row : LineKey → SectionLineViewInner → DocRow
    inner_row k (inner.Unchanged l number) = ContextRow k (line_texts (number_text number) l.now)
    inner_row k (inner.Changed b change l) = LineRow k b (line_texts (sign_text change) l.now)

-- the place of section v among the sections of its file
abbrev pub place_of : SectionView → SectionPlace
place_of v = place v.total_num_sections v.section_key.section_idx

-- the row of dots, if there is one, and the rows below it
abbrev pub rows_below : SectionView → List (List ℕ) → List DocRow
rows_below v lines =
    (if has_dots (place_of v) (length lines) then DotsRow (dots_text v.use_unicode) ∷ [] else [])
    ++ numbered_rows v (first_below (place_of v) (length lines)) (drop (first_below (place_of v) (length lines)) lines)

-- the rows of lines of context: those above the dots, the dots, and those below them
abbrev pub shown_lines : SectionView → List (List ℕ) → List DocRow
shown_lines v lines = numbered_rows v 0 (take (lines_above (place_of v) (length lines)) lines) ++ rows_below v lines

-- a row of a section of n lines of context that shows none of them
abbrev pub gap_row : SectionView → ℕ → DocRow
gap_row v n = if n == 0 then BlankRow else DotsRow (dots_text v.use_unicode)

-- the rows of a section of context; one blank row if it has no lines
unfoldable pub context_rows : SectionView → List (List ℕ) → List DocRow
context_rows v lines = if length lines == 0 then BlankRow ∷ [] else shown_lines v lines

-- the heading of a section of changed lines
abbrev pub section_heading : SectionView → Heading
section_heading v = record {
  toggle = v.toggle_box;
  fold = v.expand_box;
  title = section_text v.editable_section_num v.total_num_editable_sections;
}

-- the rows that view v shows of a section
abbrev pub rows_of : SectionView → Section → List DocRow
rows_of v (Unchanged lines) = context_rows v lines
rows_of v (Changed lines) =
    SectionRow (is_selected v) (section_heading v) ∷ (if is_fold_open v.expand_box then changed_rows v 0 lines else [])
rows_of v (FileMode checked mode) = MarkRow (is_selected v) (section_box v checked) (mode_change_text mode) ∷ []
rows_of v (Binary checked old new) = MarkRow (is_selected v) (section_box v checked) (binary_text old new) ∷ []

-- how many rows view v shows of a section
abbrev pub section_height : SectionView → Section → ℕ
section_height v section = height_of (place_of v) (is_fold_open v.expand_box) section

-- the rows of section v
unfoldable pub section_rows : SectionView → List DocRow
section_rows v = rows_of v v.section.now

-- row j of section v
abbrev pub row_on : SectionView → ℕ → DocRow
row_on v j = get_or (section_rows v) j BlankRow

-- the line that row j of section v shows, if it shows one
abbrev pub line_on : SectionView → ℕ → Option ℕ
line_on v j = line_of (row_kind (place_of v) (shape_of v.section.now) j)

-- ---- the rows of a file

-- a section that has rows
pub record ShownSection : Type 0 where
  -- the section's key
  pub key : SectionKey
  -- its rows
  pub rows : List DocRow

-- what is shown of a file
pub record ShownFile : Type 0 where
  -- the file's key
  pub key : FileKey
  -- what its header shows
  pub heading : Heading
  -- its sections that have rows; none if the file is folded
  pub sections : List ShownSection

-- whether section v is editable and unfolded
abbrev pub is_open : SectionView → Bool
is_open v = is_section_open (is_fold_open v.expand_box) v.section.now

-- whether there is a first section and it is open
abbrev pub is_first_open : List SectionView → Bool
is_first_open [] = false
is_first_open (v ∷ vs) = is_open v

-- what section v shows
abbrev pub shown_of_view : SectionView → ShownSection
shown_of_view v = record { key = v.section_key; rows = section_rows v }

-- section v in a list, which is empty if the section is not shown
abbrev pub shown_section : Bool → SectionView → List ShownSection
shown_section shown v = if shown then shown_of_view v ∷ [] else []

-- the sections that have rows; `before` says whether the section above the first is open
unfoldable pub shown_sections : Bool → List SectionView → List ShownSection
shown_sections before [] = []
shown_sections before (v ∷ vs) = shown_section (is_section_visible before v.section.now (is_first_open vs)) v ++ shown_sections (is_open v) vs

-- the text of an optional reference
abbrev pub lent_text : Option (Bor (List ℕ)) → Option (List ℕ)
lent_text t = option_map (λ s. s.now) t

-- what file header v shows
abbrev pub header_heading : FileViewHeader → Heading
header_heading v = record { toggle = v.toggle_box; fold = v.expand_box; title = path_text (lent_text v.old_path) v.path.now }

-- what file view v shows
unfoldable pub shown_file : FileView → ShownFile
shown_file v = record {
  key = v.file_key;
  heading = record { toggle = v.toggle_box; fold = v.expand_box; title = path_text (lent_text v.old_path) v.path.now };
  sections = if is_fold_open v.expand_box then shown_sections false v.section_views else [];
}

-- the rows of sections, from the top down
unfoldable pub sections_rows : List ShownSection → List DocRow
sections_rows [] = []
sections_rows (p ∷ ps) = p.rows ++ sections_rows ps

-- the rows of a file: its header, and the rows of its sections
unfoldable pub file_rows : ShownFile → List DocRow
file_rows f = HeaderRow f.key f.heading ∷ sections_rows f.sections

-- ---- the rows of a commit

-- what is shown of a commit
pub record Document : Type 0 where
  -- the commit's index, counted from 0
  pub commit : ℕ
  -- its message, if any
  pub message : Option (List ℕ)
  -- its files
  pub files : List ShownFile

-- what commit view v shows
abbrev pub document_of : CommitView → Document
document_of v = record {
  commit = v.commit_message_view.commit_idx;
  message = v.commit_message_view.commit.now.message;
  files = map shown_file v.file_views;
}
