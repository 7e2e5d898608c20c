-- The pieces and the places of the files of a session by their rows are those of its views.
use Rattle.std.proofs.Common.{◌≡◌, ℕ, suc, ◌+◌, ◌-◌, ◌<◌, ◌≤◌, ◌==◌, Bool, true, false, ◌&&◌, List, [], ◌∷◌, ◌++◌, length, map, Option, Some, None, refl, ap, ap₂, sym, subst, ◌∙◌, arith}
use Rattle.std.specs.Prelude.{nat_le, nat_lt, if◌then◌else◌, option_and_then}
use Rattle.std.specs.List.{flat_map}
use Rattle.std.proofs.lemmas.Bool.Decides.{nat_tests}
use Rattle.std.proofs.lemmas.List.Concat.{flat_map-append, flat_map-cons}
use Rattle.scm_types.specs.declared.file.File.{File}
use Rattle.scm_types.specs.declared.section.Section.{Section}
use Rattle.scm_types.specs.declared.keys.FileKey.{FileKey}
use Rattle.scm_types.specs.declared.keys.SelectionKey.TheVariants as keys
use Rattle.scm_widgets.specs.Boxes.{is_fold_open}
use Rattle.scm_widgets.specs.OverlayRects.{is_from}
use Rattle.scm_document.specs.declared.index_pieces.FilePiece.{FilePiece}
use Rattle.scm_document.specs.declared.index_pieces.SectionPiece.{SectionPiece}
use Rattle.scm_document.specs.declared.index_pieces.Piece.{Piece}
use Rattle.scm_document.specs.declared.index_pieces.Piece.TheVariants as piece
use Rattle.scm_document.specs.declared.file_view.FileView.{FileView}
use Rattle.scm_document.specs.declared.section_view.SectionView.{SectionView}
use Rattle.scm_document.specs.Places.{Place}
use Rattle.scm_document.specs.Pieces.{file_pieces, files_pieces, piece_places, pieces_among, section_among, section_below}
use Rattle.scm_document.specs.Rows.{shown_file, shown_of_view, shown_sections}
use Rattle.scm_document.specs.SectionWalk.{visible_views}
use Rattle.scm_document.specs.ViewPieces.{file_height, file_piece_of, files_height, section_piece_list, sections_height, sections_in_file}
use Rattle.scm_document.proofs.FilesOf.{AreFilesOf, HaveRows}
use Rattle.scm_document.proofs.SectionsLemmas.{section-size, shown-visible}
use Rattle.scm_document.proofs.ViewPieceLemmas.{from-true, none-below, past-sections}
use Rattle.scm_view.specs.ViewState.{Totals, ViewState, file_view_of, file_views_of, section_views_of, totals_of}
use Rattle.scm_layout.specs.declared.file_rows.FileRows.{FileRows}
use Rattle.scm_layout.specs.declared.section_rows.SectionRows.{SectionRows}
use Rattle.scm_layout.specs.Rows.{file_key_of}
use Rattle.scm_layout.specs.Searches.{section_on}
use Rattle.scm_view_state.specs.ViewRows.{HaveRowsOf, section_views_rows}
use Rattle.scm_layout_index.specs.RowPieces.{end_of_files, file_of_rows, piece_at, section_in}
use Rattle.scm_layout_index.proofs.SpanLemmas.{file_places_by, places_from, section_places_by, sections_places_by}
use Rattle.scm_layout_index.proofs.SectionLemmas.{pieces_from, section-found, section_from}
use Rattle.scm_layout_index.proofs.SectionViewLemmas.{found-are, places-are}

rows-count : (s : ViewState) (t : Totals) (k : FileKey) (i editable line top : ℕ) (before : Bool) (xs : List Section) → length (section_views_rows top before (section_views_of s t k i editable line xs)) ≡ length xs
unfolding section_views_of section_views_rows
rows-count s t k i editable line top before [] = refl
rows-count s t k i editable line top before (x ∷ xs) = ap suc (rows-count s t k (suc i) _ _ _ _ xs)

-- ---- the pieces that have a row

module _ (s : ViewState) (m y : ℕ) where
  -- the section that has it
  section-is : (i top : ℕ) (f : File) (r : FileRows) (rest : List Piece) → let v = file_view_of s (file_key_of 0 i) f in
      r.top ≡ top → r.sections ≡ section_views_rows 0 false v.section_views → section_among y rest ≡ None → top ≤ y → y < top + file_height v
      → section_below (file_piece_of m top v) y (map piece.Section (sections_in_file top v) ++ rest) ≡ section_in s.selection i r y
  section-is i top f r rest at is none low high = go (y == top) refl
    where
      k : FileKey
      k = file_key_of 0 i

      v : FileView
      v = file_view_of s k f

      found : (y == top) ≡ false → (b : Bool) → y < top + (1 + (if b then sections_height (visible_views false v.section_views) else 0))
          → section_among y (map piece.Section (if b then section_piece_list (top + 1) (visible_views false v.section_views) else []) ++ rest)
          ≡ option_and_then (piece_at s.selection i r) (section_on (y - (r.top + 1)) r.sections)
      found other true h =
          let differ : y ≡ top → ⊥ = λ q. grind (arith, other, q) in
          let there : (top + 1) + (y - (top + 1)) ≡ y = grind (arith, differ, low) in
          let first : (top + 1) + 0 ≡ top + 1 = omega arith in
          let many : length r.sections ≡ length f.sections = ap (λ (q : List SectionRows). length q) is ∙ rows-count s (totals_of f.sections) k 0 0 0 0 false f.sections in
          (rw (there, first) at (found-are s (totals_of f.sections) k (top + 1) (y - (top + 1)) 0 0 0 0 false f.sections rest (rw there none)))
          ∙ ap₂ (λ (n : ℕ) (q : List SectionRows). section_from s.selection n k (top + 1) (y - (top + 1)) 0 q) (sym many) (sym is)
          ∙ ap (λ n. section_from s.selection (length r.sections) k (n + 1) (y - (n + 1)) 0 r.sections) (sym at)
          ∙ sym (section-found s.selection i r (y - (r.top + 1)))
      found other false h =
          let differ : y ≡ top → ⊥ = λ q. grind (arith, other, q) in
          absurd (differ (omega (arith, h, low)))

      go : (b : Bool) → (y == top) ≡ b → (if b then None else section_among y (map piece.Section (sections_in_file top v) ++ rest)) ≡ section_in s.selection i r y
      go true e = let early : nat_le y r.top ≡ true = grind (arith, nat_tests, e, at) in rw early refl
      go false e = let late : nat_le y r.top ≡ false = grind (arith, nat_tests, e, at, low) in rw late (found e (is_fold_open v.expand_box) high)

  pub found-files : (i top : ℕ) (fs : List File) (rs : List FileRows) → HaveRowsOf top rs (file_views_of s 0 i fs)
      → pieces_among y (files_pieces m top (file_views_of s 0 i fs)) ≡ pieces_from s.selection m y i rs
  unfolding file_views_of
  found-files i top [] [] h = refl
  found-files i top [] (r ∷ rs) h = absurd h
  found-files i top (f ∷ fs) [] h = absurd h
  found-files i top (f ∷ fs) (r ∷ rs) h = go (found-files (suc i) (top + file_height v) fs rs h.3) (is_from top (top + file_height v) y) refl
    where
      v : FileView
      v = file_view_of s (file_key_of 0 i) f

      rest : List Piece
      rest = files_pieces m (top + file_height v) (file_views_of s 0 (suc i) fs)

      same : (nat_le r.top y && nat_lt y r.end) ≡ is_from top (top + file_height v) y
      same = rw (h.0, h.1) refl

      file : file_piece_of m top v ≡ file_of_rows m i r
      file = rw (h.0, h.1) refl

      go : pieces_among y rest ≡ pieces_from s.selection m y (suc i) rs → (b : Bool) → is_from top (top + file_height v) y ≡ b
          → (if b then Some (record { file = file_piece_of m top v; section = section_below (file_piece_of m top v) y (map piece.Section (sections_in_file top v) ++ rest) })
          else pieces_among y (map piece.Section (sections_in_file top v) ++ rest))
          ≡ (if nat_le r.top y && nat_lt y r.end then Some (record { file = file_of_rows m i r; section = section_in s.selection i r y }) else pieces_from s.selection m y (suc i) rs)
      go more true e =
          let within = from-true top (top + file_height v) y e in
          rw (same ∙ e)
          (ap₂ (λ (f : FilePiece) (o : Option SectionPiece). Some (record { file = f; section = o })) file
          (section-is i top f r rest h.0 h.2 (none-below y m (top + file_height v) (file_views_of s 0 (suc i) fs)) within.0 within.1))
      go more false e = rw (same ∙ e) (past-sections y (sections_in_file top v) rest ∙ more)

-- ---- the places of the keys

have-rows : (v : FileView) → is_fold_open v.expand_box ≡ true → HaveRows (shown_file v).sections → HaveRows (map shown_of_view (visible_views false v.section_views))
unfolding shown_file
have-rows v e h = go (is_fold_open v.expand_box) e h
  where
    go : (b : Bool) → b ≡ true → HaveRows (if b then shown_sections false v.section_views else []) → HaveRows (map shown_of_view (visible_views false v.section_views))
    go true q g = subst HaveRows (shown-visible false v.section_views) g
    go false q g = absurd (cc q)

no-height : (vs : List SectionView) → HaveRows (map shown_of_view vs) → sections_height vs ≡ 0 → (top : ℕ) → section_piece_list top vs ≡ []
no-height [] h e top = refl
no-height (v ∷ vs) h e top = absurd (omega (arith, h.0, e, section-size v))

module _ (s : ViewState) (i top : ℕ) (f : File) (r : FileRows) where
  abbrev view : FileView
  view = file_view_of s (file_key_of 0 i) f

  sections-are : HaveRows (shown_file view).sections → r.top ≡ top → r.end ≡ top + file_height view → r.sections ≡ section_views_rows 0 false view.section_views
      → flat_map piece_places (map piece.Section (sections_in_file top view)) ≡ sections_places_by i r
  sections-are some at to is = unfolded (is_fold_open view.expand_box) refl to
    where
      k : FileKey
      k = file_key_of 0 i

      vs : List SectionView
      vs = visible_views false view.section_views

      places : List Place
      places = places_from (section_places_by (length r.sections) k (r.top + 1)) 0 r.sections

      opened : HaveRows (map shown_of_view vs) → flat_map piece_places (map piece.Section (section_piece_list (top + 1) vs)) ≡ places
      opened heights =
          let first : (top + 1) + 0 ≡ top + 1 = omega arith in
          let many : length r.sections ≡ length f.sections = ap (λ (q : List SectionRows). length q) is ∙ rows-count s (totals_of f.sections) k 0 0 0 0 false f.sections in
          (rw first at (places-are s (totals_of f.sections) k (top + 1) 0 0 0 0 false f.sections heights))
          ∙ ap₂ (λ (n : ℕ) (q : List SectionRows). places_from (section_places_by n k (top + 1)) 0 q) (sym many) (sym is)
          ∙ ap (λ n. places_from (section_places_by (length r.sections) k (n + 1)) 0 r.sections) (sym at)

      unfolded : (b : Bool) → is_fold_open view.expand_box ≡ b → r.end ≡ top + (1 + (if b then sections_height vs else 0))
          → flat_map piece_places (map piece.Section (if b then section_piece_list (top + 1) vs else [])) ≡ (if nat_lt (r.top + 1) r.end then places else [])
      unfolded true e end = go (nat_lt (r.top + 1) r.end) refl (have-rows view e some)
        where
          go : (d : Bool) → nat_lt (r.top + 1) r.end ≡ d → HaveRows (map shown_of_view vs) → flat_map piece_places (map piece.Section (section_piece_list (top + 1) vs)) ≡ (if d then places else [])
          go true q heights = opened heights
          go false q heights =
              let none : sections_height vs ≡ 0 = grind (arith, nat_tests, q, end, at) in
              rw (no-height vs heights none (top + 1)) refl
      unfolded false e end = let none : nat_lt (r.top + 1) r.end ≡ false = grind (arith, nat_tests, end, at) in rw none refl

pub places-of-files : (s : ViewState) (m i n top : ℕ) (fs : List File) (rs : List FileRows) → AreFilesOf 0 n (map shown_file (file_views_of s 0 i fs)) → HaveRowsOf top rs (file_views_of s 0 i fs)
    → flat_map piece_places (files_pieces m top (file_views_of s 0 i fs)) ≡ places_from file_places_by i rs
unfolding file_views_of
places-of-files s m i n top [] [] ids h = refl
places-of-files s m i n top [] (r ∷ rs) ids h = absurd h
places-of-files s m i n top (f ∷ fs) [] ids h = absurd h
places-of-files s m i n top (f ∷ fs) (r ∷ rs) ids h =
    let v = file_view_of s (file_key_of 0 i) f in
    let next = top + file_height v in
    let size : next - top ≡ r.end - r.top = rw (h.0, h.1) refl in
    flat_map-append piece_places (file_pieces m top v) (files_pieces m next (file_views_of s 0 (suc i) fs))
    ∙ ap₂ (λ (ps qs : List Place). ps ++ qs)
    (flat_map-cons piece_places (piece.File (file_piece_of m top v)) (map piece.Section (sections_in_file top v))
    ∙ ap₂ (λ (t h : ℕ). record { key = keys.File (file_key_of 0 i); top = t; rows = h } ∷ flat_map piece_places (map piece.Section (sections_in_file top v))) (sym h.0) size
    ∙ ap (λ (ps : List Place). record { key = keys.File (file_key_of 0 i); top = r.top; rows = r.end - r.top } ∷ ps) (sections-are s i top f r ids.0.rows h.0 h.1 h.2))
    (places-of-files s m (suc i) (suc (shown_file v).key.file_idx) next fs rs ids.1 h.3)

-- ---- the end of the files

pub end-is : (s : ViewState) (i top : ℕ) (fs : List File) (rs : List FileRows) → HaveRowsOf top rs (file_views_of s 0 i fs) → end_of_files top rs ≡ top + files_height (file_views_of s 0 i fs)
unfolding file_views_of
end-is s i top [] [] h = omega arith
end-is s i top [] (r ∷ rs) h = absurd h
end-is s i top (f ∷ fs) [] h = absurd h
end-is s i top (f ∷ fs) (r ∷ rs) h =
    let v = file_view_of s (file_key_of 0 i) f in
    let vs = file_views_of s 0 (suc i) fs in
    let more : (top + file_height v) + files_height vs ≡ top + (file_height v + files_height vs) = omega arith in
    ap (λ (n : ℕ). end_of_files n rs) h.1 ∙ end-is s (suc i) (top + file_height v) fs rs h.3 ∙ more
