-- What rows of a document show, computed from the definitions: a message, and a file whose section is folded.
use Rattle.std.proofs.Common.{◌≡◌, ℕ, refl, [], ◌∷◌}
use Rattle.std.specs.Prelude.{codes, List, Some, None, false}
use Rattle.scm_cells.specs.Row.{row_text}
use Rattle.scm_types.specs.declared.file.File.{File}
use Rattle.scm_widgets.specs.Blanks.{blank_row}
use Rattle.scm_document.specs.declared.commit_view.CommitViewMode.TheVariants.{Inline}
use Rattle.scm_document.specs.Rows.{Document}
use Rattle.scm_strips.specs.Shows.{MessageRow, MarginRow, WordsRow, whole}
use Rattle.scm_view.specs.ViewState.{ViewState}
use Rattle.scm_view.specs.Window.{inline_document}
use Rattle.scm_screen.specs.DocumentRows.{row_over, row_shown, with_document}
use Rattle.scm_screen.proofs.Computing.{documents, quoted, screens}
use Rattle.scm_screen.proofs.TwoCommits.{file, one_line}

-- one commit with the message "a", and these files, of which the first is unfolded
abbrev session : List File → ViewState
session files = record {
  state = record { is_read_only = false; commits = record { message = Some (codes "a") } ∷ []; files = files };
  selection = file 0;
  expanded = file 0 ∷ [];
  view_mode = Inline;
  open_menu = None;
  quit_dialog = None;
  is_help_open = false;
}

abbrev document : Document
document = inline_document (session (one_line ∷ []))

-- the message has rows 1 to 3, the file begins below it, and its last row is that of its section
rows_above :
    (row_shown document 0 ≡ None)
    × (row_shown document 1 ≡ Some MarginRow)
    × (row_shown document 2 ≡ Some (MessageRow 0 (codes "a")))
    × (row_shown document 3 ≡ Some MarginRow)
    × (row_shown document 6 ≡ None)
unfolding documents
rows_above = (refl, refl, refl, refl, refl)

-- row z on 20 columns and 5 rows, the first of which shows row s
abbrev text_of : ℕ → ℕ → List ℕ
text_of s z = row_text (with_document (whole 20) 5 s document z (blank_row 20))

header_text : text_of 0 4 ≡ quoted (codes "( ) foo/bar      (±)")
unfolding screens
header_text = refl

section_text : text_of 0 5 ≡ quoted (codes "  [ ] Section 1/1[+]")
unfolding screens
section_text = refl

-- scrolled to row 4, the file begins above row 5, so its header is pinned there, over its section
pinned_text : text_of 4 5 ≡ quoted (codes "( ) foo/bar      (±)")
unfolding screens
pinned_text = refl

-- without files, the empty-state text lies over row 2, that of the message
words_over : (row_over 5 0 (inline_document (session [])) 2 ≡ Some WordsRow) × (row_over 5 0 (inline_document (session [])) 3 ≡ None)
unfolding documents
words_over = (refl, refl)
