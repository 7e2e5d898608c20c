-- The rows of the files and sections of views. The layout of a session has the same.
use Rattle.std.specs.Prelude.{◌≡◌, ℕ, ◌+◌, ◌==◌, List, [], ◌∷◌, Bool, false}
use Rattle.scm_types.specs.declared.keys.FileKey.{FileKey}
use Rattle.scm_types.specs.declared.section.Section.{Section}
use Rattle.scm_document.specs.declared.file_view.FileView.{FileView}
use Rattle.scm_document.specs.declared.section_view.SectionView.{SectionView}
use Rattle.scm_document.specs.Rows.{is_first_open, is_open, place_of}
use Rattle.scm_widgets.specs.Boxes.{is_fold_open}
use Rattle.scm_document.specs.ViewPieces.{file_height}
use Rattle.scm_view.specs.ViewState.{ViewState, are_all_expanded, file_views_of}
use Rattle.scm_layout.specs.declared.file_rows.FileRows.{FileRows}
use Rattle.scm_layout.specs.declared.section_rows.SectionRows.{SectionRows}
use Rattle.scm_rows.specs.Heights.{shape_of, shown_height}
use Rattle.scm_layout.specs.Rows.{folded_count, rows_at, rows_of}

-- how many rows section v has: none if it is not shown
abbrev pub view_height : Bool → SectionView → Bool → ℕ
view_height before v after = shown_height (place_of v) (is_fold_open v.expand_box) before v.section.now after

-- the rows of sections from row `top` on; `before` says whether the section above the first is open
unfoldable pub section_views_rows : ℕ → Bool → List SectionView → List SectionRows
section_views_rows top before [] = []
section_views_rows top before (v ∷ vs) =
    rows_at top (view_height before v (is_first_open vs)) (shape_of v.section.now)
    ∷ section_views_rows (top + view_height before v (is_first_open vs)) (is_open v) vs

-- the rows of the files of a layout are those of these views from row `top` on
abbrev pub HaveRowsOf : ℕ → List FileRows → List FileView → Type 0
HaveRowsOf top [] [] = Unit {0}
HaveRowsOf top [] (v ∷ vs) = ⊥
HaveRowsOf top (r ∷ rs) [] = ⊥
HaveRowsOf top (r ∷ rs) (v ∷ vs) =
    (r.top ≡ top)
    × (r.end ≡ top + file_height v)
    × (r.sections ≡ section_views_rows 0 false v.section_views)
    × HaveRowsOf (top + file_height v) rs vs

-- the rows of a session's files and sections are those of its views
abbrev pub RowsAreOfViews : Type 0
RowsAreOfViews =
    (s : ViewState) (commit top : ℕ)
    → HaveRowsOf top (rows_of s.expanded commit top s.state.files).files (file_views_of s commit 0 s.state.files)

-- a file that is expanded is wholly open if none of its sections is counted as folded
abbrev pub FoldsAreCounted : Type 0
FoldsAreCounted =
    (s : ViewState) (k : FileKey) (sections : List Section)
    → are_all_expanded s k 0 sections ≡ (folded_count s.expanded k 0 sections == 0)
