-- The heading of a file by its counts.
use Rattle.std.specs.Prelude.{ℕ, ◌==◌}
use Rattle.scm_types.specs.declared.file.File.{File}
use Rattle.scm_types.specs.declared.keys.FileKey.{FileKey}
use Rattle.scm_types.specs.declared.keys.SelectionKey.TheVariants as keys
use Rattle.scm_types.specs.Keys.{has_key}
use Rattle.scm_document.specs.Rows.{Heading}
use Rattle.scm_document.specs.Texts.{path_text}
use Rattle.scm_layout.specs.declared.file_counts.FileCounts.{FileCounts}
use Rattle.scm_strips.specs.ShownRows.{heading}
use Rattle.scm_view.specs.ViewState.{ViewState, expand_box_of, toggle_box_of}
use Rattle.scm_view_state.specs.Folds.{fold_of}
use Rattle.scm_view_state.specs.Marks.{tristate_by}

-- the heading of file f with key k and counts n, of whose sections of changed lines `folded` are folded
abbrev pub counted_heading : ViewState → FileKey → FileCounts → ℕ → File → Heading
counted_heading s k n folded f =
    heading
    (toggle_box_of s (keys.File k) (tristate_by n.checked n.items))
    (expand_box_of s (keys.File k) (fold_of (has_key s.expanded (keys.File k)) (folded == 0)))
    (path_text f.old_path f.path)
