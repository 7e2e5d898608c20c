-- What an index by a layout answers is what the window has: its owners, the rows of its keys, and its extent.
use Rattle.std.proofs.Common.{◌≡◌, ℕ, suc, ◌+◌, List, [], ◌∷◌, length, map, refl, ap, sym, subst, ◌∙◌}
use Rattle.std.specs.Prelude.{nat_eq, slice_get, Some, None}
use Rattle.scm_types.specs.declared.keys.SelectionKey.{SelectionKey}
use Rattle.scm_types.specs.declared.state.Commit.{Commit}
use Rattle.scm_document.specs.declared.file_view.FileView.{FileView}
use Rattle.scm_document.specs.Places.{Place}
use Rattle.scm_document.specs.DocumentRows.{rows_of_key}
use Rattle.scm_document.specs.Pieces.{files_pieces, pieces_among}
use Rattle.scm_rows.specs.Heights.{message_height}
use Rattle.scm_document.specs.Rows.{shown_file}
use Rattle.scm_document.specs.ViewPieces.{file_height, files_height}
use Rattle.scm_document.proofs.FilesOf.{AreFilesOf as HaveIds}
use Rattle.scm_view.specs.ViewState.{ViewState, commit_at, commit_view_of, file_views_of}
use Rattle.scm_view.specs.Window.{span}
use Rattle.scm_view.proofs.FrameIndexLemmas.{index-span}
use Rattle.scm_view.proofs.SessionLemmas.{session-ids}
use Rattle.scm_layout.specs.declared.file_rows.FileRows.{FileRows}
use Rattle.scm_layout.specs.declared.state_rows.StateRows.{StateRows}
use Rattle.scm_layout.specs.Layouts.{files_top}
use Rattle.scm_layout.specs.Rows.{rows_of}
use Rattle.scm_view_state.specs.ViewRows.{HaveRowsOf}
use Rattle.scm_view_state.proofs.ViewLemmas.{top-message}
use Rattle.scm_view_state.proofs.ViewRowLemmas.{rows-of-views}
use Rattle.scm_layout_index.specs.LayoutIndex.{AreRowsOf}
use Rattle.scm_layout_index.specs.RowPieces.{end_of_files, pieces_on, rows_by_key}
use Rattle.scm_layout_index.proofs.FileLemmas.{end-is, found-files, places-of-files}
use Rattle.scm_layout_index.proofs.SectionLemmas.{pieces-found}
use Rattle.scm_layout_index.proofs.SpanLemmas.{rows-by-key}

-- the first commit
pub commit-is : (commits : List Commit) (c : Commit) → Some c ≡ slice_get commits 0 → commit_at 0 commits ≡ c
unfolding commit_at
commit-is [] c e = absurd cc
commit-is (d ∷ ds) c e = let same : d ≡ c = cc in same

pub commit-lacks : (commits : List Commit) → None ≡ slice_get commits 0 → commit_at 0 commits ≡ record { message = None }
unfolding commit_at
commit-lacks [] e = refl
commit-lacks (d ∷ ds) e = absurd cc

abbrev top_of : ViewState → ℕ
top_of shown = 1 + message_height (commit_at 0 shown.state.commits).message

views-rows : (rows : StateRows) (shown : ViewState) → AreRowsOf rows shown → HaveRowsOf (top_of shown) rows.files (file_views_of shown 0 0 shown.state.files)
views-rows rows shown is =
    subst (λ (r : StateRows). HaveRowsOf (top_of shown) r.files (file_views_of shown 0 0 shown.state.files)) (sym is)
    (subst (λ (n : ℕ). HaveRowsOf n (rows_of shown.expanded 0 (files_top shown.state.commits) shown.state.files).files (file_views_of shown 0 0 shown.state.files)) (top-message shown.state.commits)
    (rows-of-views shown 0 (files_top shown.state.commits)))

views-ids : (shown : ViewState) → HaveIds 0 0 (map shown_file (file_views_of shown 0 0 shown.state.files))
views-ids shown = session-ids shown 0

-- ---- the answers

module _ (shown : ViewState) (rows : StateRows) (is : AreRowsOf rows shown) where
  abbrev views : List FileView
  views = file_views_of shown 0 0 shown.state.files

  -- the pieces that have a row
  pub found-pieces : (m y : ℕ) (k : SelectionKey) → k ≡ shown.selection → pieces_on k m y rows.files ≡ pieces_among y (files_pieces m (top_of shown) views)
  found-pieces m y k e =
      ap (λ (q : SelectionKey). pieces_on q m y rows.files) e
      ∙ pieces-found shown.selection m y rows.files
      ∙ sym (found-files shown m y 0 (top_of shown) shown.state.files rows.files (views-rows rows shown is))

  -- whether there are files, and where they end
  pub files-empty : nat_eq (length rows.files) 0 ≡ nat_eq (length views) 0
  files-empty = ap (λ k. nat_eq k 0) (count (top_of shown) rows.files views (views-rows rows shown is))
    where
      count : (top : ℕ) (rs : List FileRows) (vs : List FileView) → HaveRowsOf top rs vs → length rs ≡ length vs
      count top [] [] h = refl
      count top [] (v ∷ vs) h = absurd h
      count top (r ∷ rs) [] h = absurd h
      count top (r ∷ rs) (v ∷ vs) h = ap suc (count (top + file_height v) rs vs h.3)

  pub files-end : (n : ℕ) → n ≡ message_height (commit_at 0 shown.state.commits).message → end_of_files (1 + n) rows.files ≡ top_of shown + files_height views
  files-end n e = ap (λ k. end_of_files (1 + k) rows.files) e ∙ end-is shown 0 (top_of shown) shown.state.files rows.files (views-rows rows shown is)

-- which rows each key has
pub new-span : (shown : ViewState) (rows : StateRows) (k : SelectionKey) → AreRowsOf rows shown → rows_by_key rows.files k ≡ span shown k
new-span shown rows k r =
    sym (rows-by-key k rows.files)
    ∙ ap (λ (ps : List Place). rows_of_key k ps) (sym (places-of-files shown 0 0 0 (top_of shown) shown.state.files rows.files (views-ids shown) (views-rows rows shown r)))
    ∙ index-span 0 shown (commit_view_of shown 0) k refl
