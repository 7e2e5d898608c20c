-- The view state of a session, and the views that show it. The view state is all that the screen depends on, apart from its size and the
-- scroll. Of a text or section that a view borrows, only the value counts, and not its address: a view shows a commit of a session if
-- it has the same document as the view that is defined here.
use Rattle.std.specs.Prelude.{◌≡◌, ℕ, zero, suc, ◌+◌, List, [], ◌∷◌, length, count_by, Bool, true, false, ◌&&◌, if◌then◌else◌, Option, Some, None, option_map}
use Rattle.std.specs.Borrow.{Bor}
use Rattle.scm_types.specs.declared.file.File.{File}
use Rattle.scm_types.specs.declared.section.Section.{Section}
use Rattle.scm_types.specs.declared.state.Commit.{Commit}
use Rattle.scm_types.specs.declared.state.RecordState.{RecordState}
use Rattle.scm_types.specs.declared.tristate.Tristate.{Tristate}
use Rattle.scm_types.specs.declared.tristate.Tristate.TheVariants as tristate
use Rattle.scm_types.specs.Marks.{tristate_of, section_marks, file_marks, is_editable_section}
use Rattle.scm_types.specs.declared.keys.FileKey.{FileKey}
use Rattle.scm_types.specs.declared.keys.SectionKey.{SectionKey}
use Rattle.scm_types.specs.declared.keys.SelectionKey.{SelectionKey}
use Rattle.scm_types.specs.declared.keys.SelectionKey.TheVariants as keys
use Rattle.scm_widgets.specs.declared.ids.ComponentId.TheVariants as ids
use Rattle.scm_widgets.specs.declared.tristate_box.TristateIconStyle.TheVariants as style
use Rattle.scm_overlay.specs.declared.quit_dialog.QuitDialog.{QuitDialog}
use Rattle.scm_document.specs.declared.section_view.SectionSelection.{SectionSelection}
use Rattle.scm_document.specs.declared.section_view.SectionSelection.TheVariants.{SectionHeader, ChangedLine}
use Rattle.scm_document.specs.declared.section_view.SectionView.{SectionView}
use Rattle.scm_document.specs.declared.file_view.FileView.{FileView}
use Rattle.scm_document.specs.declared.commit_view.CommitView.{CommitView}
use Rattle.scm_document.specs.declared.commit_view.CommitViewMode.{CommitViewMode}
use Rattle.scm_types.specs.Keys.{section_key_of, section_of_line, is_key, has_key}
use Rattle.scm_widgets.specs.Boxes.{IdBox}
use Rattle.scm_rows.specs.Lines.{is_changed, old_lines}
use Rattle.scm_document.specs.Rows.{document_of}

-- A view state.
pub record ViewState : Type 0 where
  -- the state, with its current marks and messages
  pub state : RecordState
  -- the key of the selected item
  pub selection : SelectionKey
  -- the keys of the expanded files and sections
  pub expanded : List SelectionKey
  -- whether one commit is shown, or two side by side
  pub view_mode : CommitViewMode
  -- the index of the open menu, counted from 0
  pub open_menu : Option ℕ
  -- the quit dialog, if it is open
  pub quit_dialog : Option QuitDialog
  -- whether the help dialog is open
  pub is_help_open : Bool

-- A borrow of `a`; its address does not count.
abbrev pub borrow_of : {A : Type 0} → A → Bor A
borrow_of a = record { ref_ptr = (0, 0); now = a }

-- ---- boxes

-- The checkbox of `key`.
abbrev pub toggle_box_of : ViewState → SelectionKey → Tristate → IdBox
toggle_box_of s key mark = record {
  use_unicode = true;
  is_focused = is_key key s.selection;
  is_read_only = s.state.is_read_only;
  id = ids.ToggleBox key;
  tristate = mark;
  icon_style = style.Check;
}

-- The expand box of `key`. It is never read-only.
abbrev pub expand_box_of : ViewState → SelectionKey → Tristate → IdBox
expand_box_of s key fold = record {
  use_unicode = true;
  is_focused = is_key key s.selection;
  is_read_only = false;
  id = ids.ExpandBox key;
  tristate = fold;
  icon_style = style.Expand;
}

-- ---- folds

-- The fold of a section: open if it is expanded.
abbrev pub section_fold : ViewState → SectionKey → Tristate
section_fold s k = if has_key s.expanded (keys.Section k) then tristate.True else tristate.False

-- Whether all sections with changed lines are expanded; the first section of the list has index `i`.
unfoldable pub are_all_expanded : ViewState → FileKey → ℕ → List Section → Bool
are_all_expanded s k i [] = true
are_all_expanded s k i (section ∷ more) =
    (if is_changed section then has_key s.expanded (keys.Section (section_key_of k i)) else true)
    && are_all_expanded s k (suc i) more

-- The fold of a file: partly open if it is expanded and one of its sections with changed lines is folded.
abbrev pub file_fold : ViewState → FileKey → File → Tristate
file_fold s k f =
    if has_key s.expanded (keys.File k)
    then (if are_all_expanded s k 0 f.sections then tristate.True else tristate.Partial)
    else tristate.False

-- ---- sections

-- What is selected in the section: its header, one of its lines, or nothing.
abbrev pub selected_in : SectionKey → SelectionKey → Option SectionSelection
selected_in k keys.None = None
selected_in k (keys.File file) = None
selected_in k (keys.Section section) = if is_key (keys.Section k) (keys.Section section) then Some SectionHeader else None
selected_in k (keys.Line line) =
    if is_key (keys.Section k) (keys.Section (section_of_line line))
    then Some (ChangedLine line.line_idx)
    else None

-- Counts of a file's sections.
pub record Totals : Type 0 where
  -- the number of all sections
  pub sections : ℕ
  -- the number of those that can be edited
  pub editable : ℕ

-- The counts of these sections.
abbrev pub totals_of : List Section → Totals
totals_of sections = record { sections = length sections; editable = count_by is_editable_section sections }

-- The view of a section that follows `editable` sections that can be edited, and `line` lines.
abbrev pub section_view_of : ViewState → Totals → SectionKey → ℕ → ℕ → Section → SectionView
section_view_of s totals k editable line section = record {
  use_unicode = true;
  is_read_only = s.state.is_read_only;
  section_key = k;
  toggle_box = toggle_box_of s (keys.Section k) (tristate_of (section_marks section));
  expand_box = expand_box_of s (keys.Section k) (section_fold s k);
  selection = selected_in k s.selection;
  total_num_sections = totals.sections;
  editable_section_num = editable + 1;
  total_num_editable_sections = totals.editable;
  section = borrow_of section;
  line_start_num = line + 1;
}

-- The views of sections; the first one has index `i` and follows `editable` sections that can be edited, and `line` lines.
unfoldable pub section_views_of : ViewState → Totals → FileKey → ℕ → ℕ → ℕ → List Section → List SectionView
section_views_of s totals k i editable line [] = []
section_views_of s totals k i editable line (section ∷ more) =
    section_view_of s totals (section_key_of k i) editable line section
    ∷ section_views_of s totals k (suc i)
    (if is_editable_section section then editable + 1 else editable) (line + old_lines section) more

-- ---- files and commits

-- The view of a file.
abbrev pub file_view_of : ViewState → FileKey → File → FileView
file_view_of s k f = record {
  file_key = k;
  toggle_box = toggle_box_of s (keys.File k) (tristate_of (file_marks f));
  expand_box = expand_box_of s (keys.File k) (file_fold s k f);
  is_header_selected = is_key (keys.File k) s.selection;
  old_path = option_map borrow_of f.old_path;
  path = borrow_of f.path;
  section_views = section_views_of s (totals_of f.sections) k 0 0 0 f.sections;
}

-- The views of files; the first one has index `i`.
unfoldable pub file_views_of : ViewState → ℕ → ℕ → List File → List FileView
file_views_of s commit i [] = []
file_views_of s commit i (f ∷ fs) =
    file_view_of s (record { commit_idx = commit; file_idx = i }) f ∷ file_views_of s commit (suc i) fs

-- The commit at index `n`, or one without a message if there is none.
unfoldable pub commit_at : ℕ → List Commit → Commit
commit_at n [] = record { message = None }
commit_at zero (c ∷ cs) = c
commit_at (suc n) (c ∷ cs) = commit_at n cs

-- The view of commit `commit`. The inline view shows commit 0.
abbrev pub commit_view_of : ViewState → ℕ → CommitView
commit_view_of s commit = record {
  commit_message_view = record { commit_idx = commit; commit = borrow_of (commit_at commit s.state.commits) };
  file_views = file_views_of s commit 0 s.state.files;
}

-- The view shows commit `commit` of the session.
abbrev pub Shows : CommitView → ViewState → ℕ → Type 0
Shows v s commit = document_of v ≡ document_of (commit_view_of s commit)
