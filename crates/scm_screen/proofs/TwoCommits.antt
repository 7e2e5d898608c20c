-- Screens of two commits beside each other, computed from the definitions: what rows show, who owns places, where keys stand.
use Rattle.std.proofs.Common.{◌≡◌, ℕ, refl, [], ◌∷◌}
use Rattle.std.specs.Prelude.{codes, List, ◌++◌, Some, None, false, slice_index_or, replicate}
use Rattle.scm_cells.specs.Row.{row_text}
use Rattle.scm_types.specs.declared.file.File.{File}
use Rattle.scm_types.specs.declared.file_mode.FileMode.TheVariants.{Unix}
use Rattle.scm_types.specs.declared.keys.SelectionKey.{SelectionKey}
use Rattle.scm_types.specs.declared.keys.SelectionKey.TheVariants as keys
use Rattle.scm_types.specs.declared.line.ChangeType.TheVariants.{Added}
use Rattle.scm_types.specs.declared.section.Section.TheVariants.{Changed}
use Rattle.scm_widgets.specs.declared.ids.ComponentId.TheVariants as ids
use Rattle.scm_document.specs.declared.commit_view.CommitViewMode.TheVariants.{Adjacent}
use Rattle.scm_view.specs.ViewState.{ViewState}
use Rattle.scm_screen.specs.Beside.{document_at, owner_beside, second_area, span_beside, window_beside}
use Rattle.scm_screen.proofs.Computing.{owners, quoted, screens, documents}

-- two commits without messages, and these files
abbrev session : List File → SelectionKey → List SelectionKey → ViewState
session files selection expanded = record {
  state = record { is_read_only = false; commits = record { message = None } ∷ (record { message = None } ∷ []); files = files };
  selection = selection;
  expanded = expanded;
  view_mode = Adjacent;
  open_menu = None;
  quit_dialog = None;
  is_help_open = false;
}

-- a file with one added line
abbrev pub one_line : File
one_line = record {
  old_path = None;
  path = codes "foo/bar";
  file_mode = Unix 33188;
  sections = Changed (record { is_checked = false; change_type = Added; line = 110 ∷ 10 ∷ [] } ∷ []) ∷ [];
}

-- the file of commit k, its section, and the line of that
abbrev pub file : ℕ → SelectionKey
file k = keys.File (record { commit_idx = k; file_idx = 0 })

abbrev section : ℕ → SelectionKey
section k = keys.Section (record { commit_idx = k; file_idx = 0; section_idx = 0 })

abbrev changed_line : ℕ → SelectionKey
changed_line k = keys.Line (record { commit_idx = k; file_idx = 0; section_idx = 0; line_idx = 0 })

-- the file of commit k is selected, and all is folded
abbrev folded : ℕ → ViewState
folded k = session (one_line ∷ []) (file k) []

-- the file of commit 1 is selected and unfolded, its section is folded
abbrev half_open : ViewState
half_open = session (one_line ∷ []) (file 1) (file 1 ∷ [])

-- a row of the screen, as text
abbrev text_of : ℕ → ℕ → ℕ → ℕ → ViewState → List ℕ
text_of y w h s shown = row_text (slice_index_or (window_beside w h s shown) y [])

-- ---- areas

-- 41 columns: each document has 20, and the second begins at column 21
halves : second_area 41 20 (document_at (folded 0) 0) ≡ record { left = 21; width = 20 }
unfolding documents
halves = refl

-- the empty-state text alone has 29 columns, so the second document begins at column 30 from a width of 29 on
bare_halves : second_area 101 50 (document_at (session [] keys.None []) 0) ≡ record { left = 30; width = 50 }
unfolding documents
bare_halves = refl

-- ---- what rows show

first_selected : text_of 1 41 5 0 (folded 0) ≡ quoted (codes "( ) foo/bar      (+) [ ] foo/bar      [+]")
unfolding screens
first_selected = refl

second_selected : text_of 1 41 5 0 (folded 1) ≡ quoted (codes "[ ] foo/bar      [+] ( ) foo/bar      (+)")
unfolding screens
second_selected = refl

unfolded_header : text_of 1 41 5 0 half_open ≡ quoted (codes "[ ] foo/bar      [+] ( ) foo/bar      (±)")
unfolding screens
unfolded_header = refl

unfolded_section : text_of 2 41 5 0 half_open ≡ quoted (replicate 23 32 ++ codes "[ ] Section 1/1[+]")
unfolding screens
unfolded_section = refl

-- ---- who owns places

-- the boxes of both headers; the column between them is the first header's where nothing else is, by its file
header_owners :
    (owner_beside 41 5 0 (folded 0) 1 1 ≡ Some (ids.ToggleBox (file 0)))
    × (owner_beside 41 5 0 (folded 0) 1 22 ≡ Some (ids.ToggleBox (file 1)))
    × (owner_beside 41 5 0 (folded 0) 1 39 ≡ Some (ids.ExpandBox (file 1)))
    × (owner_beside 41 5 0 (folded 0) 1 30 ≡ Some (ids.FileViewHeader (record { commit_idx = 1; file_idx = 0 })))
    × (owner_beside 41 5 0 (folded 0) 1 20 ≡ None)
unfolding owners
header_owners = (refl, refl, refl, refl, refl)

-- a path that is cut owns its columns in the gap and in the other document, where that has nothing: the second document has no row there
abbrev long_path : File
long_path = record one_line { path = codes "a/path/of/thirty/columns/or/so" }

abbrev first_open : ViewState
first_open = session (long_path ∷ []) (file 0) (file 0 ∷ (section 0 ∷ []))

long_owners :
    (owner_beside 41 5 0 first_open 1 20 ≡ Some (ids.FileViewHeader (record { commit_idx = 0; file_idx = 0 })))
    × (owner_beside 41 5 0 first_open 1 21 ≡ Some (ids.ToggleBox (file 1)))
    × (owner_beside 41 5 0 first_open 2 33 ≡ Some (ids.SelectableItem (file 0)))
    × (owner_beside 41 5 0 first_open 2 34 ≡ None)
unfolding owners
long_owners = (refl, refl, refl, refl)

-- ---- where keys stand

spans :
    (span_beside 41 half_open (file 0) ≡ Some (1, 1))
    × (span_beside 41 half_open (file 1) ≡ Some (1, 2))
    × (span_beside 41 half_open (section 1) ≡ Some (2, 1))
    × (span_beside 41 half_open (changed_line 1) ≡ None)
unfolding documents
spans = (refl, refl, refl, refl)
