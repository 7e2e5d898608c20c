-- What the header of a file shows, by the file's counts.
use Rattle.std.proofs.Common.{◌≡◌, ◌∙◌, ◌==◌, List, ℕ, refl, sym, ap}
use Rattle.std.specs.Prelude.{Option, Some, None, option_map}
use Rattle.scm_types.specs.declared.file.File.{File}
use Rattle.scm_types.specs.declared.keys.FileKey.{FileKey}
use Rattle.scm_types.specs.declared.keys.SelectionKey.TheVariants as keys
use Rattle.scm_types.specs.Keys.{has_key}
use Rattle.scm_types.specs.Marks.{file_marks, tristate_of}
use Rattle.scm_document.specs.Rows.{lent_text, shown_file}
use Rattle.scm_document.specs.Texts.{path_text}
use Rattle.scm_layout.specs.Counts.{file_counts}
use Rattle.scm_layout.specs.Rows.{folded_count}
use Rattle.scm_layout.specs.declared.file_counts.FileCounts.{FileCounts}
use Rattle.scm_strips.specs.ShownRows.{heading}
use Rattle.scm_view.specs.ViewState.{ViewState, borrow_of, expand_box_of, file_fold, file_view_of, toggle_box_of}
use Rattle.scm_view_state.specs.Folds.{fold_of}
use Rattle.scm_view_state.specs.Marks.{tristate_by}
use Rattle.scm_view_state.proofs.ViewRowLemmas.{folds-counted}
use Rattle.scm_screen.specs.Headers.{counted_heading}

same-path : (path : Option (List ℕ)) → lent_text (option_map borrow_of path) ≡ path
same-path None = refl
same-path (Some path) = refl

-- the heading of a file by its counts is that of its view
pub heading-counted : (s : ViewState) (k : FileKey) (f : File) (n : FileCounts) (folded : ℕ) → n ≡ file_counts f → folded ≡ folded_count s.expanded k 0 f.sections
    → counted_heading s k n folded f ≡ (shown_file (file_view_of s k f)).heading
unfolding shown_file
heading-counted s k f n folded counts folds =
    let mark : tristate_by n.checked n.items ≡ tristate_of (file_marks f) = ap (λ (m : FileCounts). tristate_by m.checked m.items) counts in
    let fold : fold_of (has_key s.expanded (keys.File k)) (folded == 0) ≡ file_fold s k f =
    ap (λ b. fold_of (has_key s.expanded (keys.File k)) b) (ap (λ m. m == 0) folds ∙ sym (folds-counted s k 0 f.sections)) in
    let path = sym (same-path f.old_path) in
    λ i. heading (toggle_box_of s (keys.File k) (mark i)) (expand_box_of s (keys.File k) (fold i)) (path_text (path i) f.path)
