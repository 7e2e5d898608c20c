-- How much is drawn of a small document and of a longer one, and what an index of their rows says, computed from the definitions.
use Rattle.std.proofs.Common.{◌≡◌, ℕ, zero, suc, refl, [], ◌∷◌}
use Rattle.std.specs.Prelude.{codes, Some, None, List, Option, false, pos}
use Rattle.scm_cells.specs.Counts.{Counts}
use Rattle.scm_types.specs.declared.line.SectionChangedLine.{SectionChangedLine}
use Rattle.scm_types.specs.declared.line.ChangeType.TheVariants.{Added}
use Rattle.scm_types.specs.declared.section.Section.TheVariants.{Changed}
use Rattle.scm_types.specs.declared.keys.SelectionKey.TheVariants as keys
use Rattle.scm_document.specs.declared.commit_view.CommitViewMode.TheVariants as mode
use Rattle.scm_document.specs.declared.row_place.RowPlace.TheVariants as part
use Rattle.scm_view.specs.ViewState.{ViewState}
use Rattle.scm_widgets.specs.Counts.{drawn}
use Rattle.scm_widgets.specs.Screens.{sight}
use Rattle.scm_view.specs.AppView.{app_view_of, app_counts}
use Rattle.scm_view.specs.Window.{inline_document}
use Rattle.scm_document.specs.RowIndex.{Index, index_of, part_on, top_in, rows_in}
use Rattle.scm_worked_examples.proofs.Computing.{documents, counting, file_key, section_key, line_key, file_of}

-- so many unchecked additions
additions : ℕ → List SectionChangedLine
additions zero = []
additions (suc n) = record { is_checked = false; change_type = Added; line = 48 ∷ 10 ∷ [] } ∷ additions n

-- a file of so many added lines, unfolded, of which the sixth is selected
abbrev lines_shown : ℕ → ViewState
lines_shown n = record {
  state = record { is_read_only = false; commits = record { message = None } ∷ (record { message = None } ∷ []); files = file_of (codes "f") (Changed (additions n) ∷ []) ∷ [] };
  selection = line_key 0 5;
  expanded = file_key ∷ (section_key 0 ∷ []);
  view_mode = mode.Inline;
  open_menu = None;
  quit_dialog = None;
  is_help_open = false;
}

-- what drawing it takes on a screen of 24 by 8 at row 1 of the document
abbrev counts_of : ℕ → Counts
counts_of n = app_counts (app_view_of (lines_shown n)) (sight 24 8 1) (pos 0)

-- eight rows of the document, and the pinned header: two headings, six lines, the pinned heading, and the menu bar
ten_lines : counts_of 10 ≡ drawn 9 29
unfolding documents counting additions
ten_lines = refl

-- no more for a longer document
many_lines : counts_of 200 ≡ drawn 9 29
unfolding documents counting additions
many_lines = refl

-- ---- the index

abbrev rows_index : Index
rows_index = index_of (inline_document (lines_shown 10))

no_row : part_on rows_index.parts 0 ≡ None
unfolding documents counting additions
no_row = refl

header_row : part_on rows_index.parts 1 ≡ Some (part.File (record { commit_idx = 0; file_idx = 0 }))
unfolding documents counting additions
header_row = refl

line_row : part_on rows_index.parts 8 ≡ Some (part.Section (record { commit_idx = 0; file_idx = 0; section_idx = 0 }) 6)
unfolding documents counting additions
line_row = refl

past_row : part_on rows_index.parts 13 ≡ None
unfolding documents counting additions
past_row = refl

file_top : top_in rows_index file_key ≡ Some 1
unfolding documents counting additions
file_top = refl

file_rows : rows_in rows_index file_key ≡ Some 12
unfolding documents counting additions
file_rows = refl

sixth_line : top_in rows_index (line_key 0 5) ≡ Some 8
unfolding documents counting additions
sixth_line = refl
