-- The sections of a file by their rows are those of its views.
use Rattle.std.proofs.Common.{◌≡◌, ℕ, suc, ◌+◌, Bool, true, false, ◌&&◌, List, [], ◌∷◌, ◌++◌, map, Option, Some, None, refl, ap, ap₂, ◌∙◌, arith}
use Rattle.std.specs.Prelude.{nat_le, nat_lt, if◌then◌else◌}
use Rattle.std.specs.List.{flat_map}
use Rattle.std.proofs.lemmas.Bool.Decides.{nat_tests}
use Rattle.std.proofs.lemmas.List.Concat.{flat_map-cons}
use Rattle.scm_types.specs.declared.keys.FileKey.{FileKey}
use Rattle.scm_types.specs.declared.keys.SectionKey.{SectionKey}
use Rattle.scm_types.specs.declared.keys.SelectionKey.{SelectionKey}
use Rattle.scm_types.specs.declared.keys.SelectionKey.TheVariants as keys
use Rattle.scm_types.specs.declared.section.Section.{Section}
use Rattle.scm_types.specs.Keys.{is_key, section_key_of, section_of_line}
use Rattle.scm_widgets.specs.OverlayRects.{is_from}
use Rattle.scm_document.specs.declared.index_pieces.SectionPiece.{SectionPiece}
use Rattle.scm_document.specs.declared.index_pieces.Piece.{Piece}
use Rattle.scm_document.specs.declared.index_pieces.Piece.TheVariants as piece
use Rattle.scm_document.specs.Places.{Place}
use Rattle.scm_document.specs.Pieces.{piece_places, section_among, section_places}
use Rattle.scm_document.specs.declared.section_view.SectionView.{SectionView}
use Rattle.scm_document.specs.declared.section_view.SectionSelection.{SectionSelection}
use Rattle.scm_document.specs.declared.section_view.SectionSelection.TheVariants.{SectionHeader, ChangedLine}
use Rattle.scm_document.specs.Rows as views
use Rattle.scm_document.specs.SectionWalk.{visible_views}
use Rattle.scm_document.proofs.FilesOf.{HaveRows}
use Rattle.scm_document.proofs.SectionsLemmas.{section-size}
use Rattle.scm_document.specs.ViewPieces as pieces
use Rattle.scm_rows.specs.Lines.{old_lines}
use Rattle.scm_view.specs.ViewState.{Totals, ViewState, section_view_of, section_views_of, selected_in}
use Rattle.scm_rows.specs.Heights.{is_section_visible, shape_of}
use Rattle.scm_layout.specs.Counts.{editable_after}
use Rattle.scm_layout.specs.Rows.{rows_at}
use Rattle.scm_view_state.specs.ViewRows.{section_views_rows}
use Rattle.scm_document.specs.SectionPieces.{section_piece}
use Rattle.scm_layout_index.specs.RowPieces.{section_of_rows}
use Rattle.scm_layout_index.proofs.SpanLemmas.{places_from, section_places_by}
use Rattle.scm_layout_index.proofs.SectionLemmas.{section_from}

-- ---- the piece of a section

when : Bool → Option SectionSelection
when b = if b then Some SectionHeader else None

when-is : (b : Bool) → views.is_header_selected (if b then Some SectionHeader else None) ≡ b
when-is true = refl
when-is false = refl

when-line : (b : Bool) (n : ℕ) → views.is_header_selected (if b then Some (ChangedLine n) else None) ≡ false
when-line true n = refl
when-line false n = refl

-- a section is selected if its key is
selected-is : (k : SectionKey) (selection : SelectionKey) → views.is_header_selected (selected_in k selection) ≡ is_key (keys.Section k) selection
selected-is k keys.None = refl
selected-is k (keys.File f) = refl
selected-is k (keys.Section s) = when-is (is_key (keys.Section k) (keys.Section s))
selected-is k (keys.Line l) = when-line (is_key (keys.Section k) (keys.Section (section_of_line l))) l.line_idx

module _ (s : ViewState) (t : Totals) (k : FileKey) where
  -- the view of section i
  abbrev view : ℕ → ℕ → ℕ → Section → SectionView
  view i editable line x = section_view_of s t (section_key_of k i) editable line x

  piece-is : (i editable line first top : ℕ) (x : Section)
      → pieces.section_piece_of (view i editable line x) (first + top) ≡ section_of_rows s.selection t.sections (section_key_of k i) first (rows_at top (views.section_height (view i editable line x) x) (shape_of x))
  piece-is i editable line first top x =
      let h = views.section_height (view i editable line x) x in
      let key = section_key_of k i in
      let below : (first + top) + h ≡ first + (top + h) = omega arith in
      ap (λ b. section_piece b t.sections key (first + top) ((first + top) + h) (shape_of x)) (selected-is key s.selection)
      ∙ ap (λ e. section_piece (is_key (keys.Section key) s.selection) t.sections key (first + top) e (shape_of x)) below

-- ---- the sections of a file

module _ (s : ViewState) (totals : Totals) (k : FileKey) (first : ℕ) where
  -- the section that has a row, and the places of the keys
  pub found-are : (y i editable line top : ℕ) (before : Bool) (xs : List Section) (rest : List Piece) → section_among (first + y) rest ≡ None
      → section_among (first + y) (map piece.Section (pieces.section_piece_list (first + top) (visible_views before (section_views_of s totals k i editable line xs))) ++ rest)
      ≡ section_from s.selection totals.sections k first y i (section_views_rows top before (section_views_of s totals k i editable line xs))
  unfolding section_views_of section_views_rows
  found-are y i editable line top before [] rest none = none
  found-are y i editable line top before (x ∷ xs) rest none =
      go (is_section_visible before v.section.now (views.is_first_open vs)) (λ t. found-are y (suc i) (editable_after editable x) (line + old_lines x) t (views.is_open v) xs rest none)
    where
      v : SectionView
      v = section_view_of s totals (section_key_of k i) editable line x

      vs : List SectionView
      vs = section_views_of s totals k (suc i) (editable_after editable x) (line + old_lines x) xs

      n : ℕ
      n = views.section_height v x

      among : ℕ → Option SectionPiece
      among t = section_among (first + y) (map piece.Section (pieces.section_piece_list t (visible_views (views.is_open v) vs)) ++ rest)

      from : ℕ → Option SectionPiece
      from t = section_from s.selection totals.sections k first y (suc i) (section_views_rows t (views.is_open v) vs)

      go : (b : Bool) → ((t : ℕ) → among (first + t) ≡ from t)
          → section_among (first + y) (map piece.Section (pieces.section_piece_list (first + top) (if b then v ∷ visible_views (views.is_open v) vs else visible_views (views.is_open v) vs)) ++ rest)
          ≡ section_from s.selection totals.sections k first y i (rows_at top (if b then n else 0) (shape_of x) ∷ section_views_rows (top + (if b then n else 0)) (views.is_open v) vs)
      go true more =
          let low : (first + top) + n ≡ first + (top + n) = omega arith in
          let here : is_from (first + top) ((first + top) + n) (first + y) ≡ (nat_le top y && nat_lt y (top + n)) = grind (arith, nat_tests) in
          ap (λ t. if t then Some (pieces.section_piece_of v (first + top)) else among ((first + top) + n)) here
          ∙ ap₂ (λ (p : SectionPiece) (o : Option SectionPiece). if nat_le top y && nat_lt y (top + n) then Some p else o) (piece-is s totals k i editable line first top x) (ap among low ∙ more (top + n))
      go false more =
          let same : top ≡ top + 0 = omega arith in
          let out : (nat_le top y && nat_lt y (top + 0)) ≡ false = grind (arith, nat_tests) in
          rw out (ap (λ t. among (first + t)) same ∙ more (top + 0))

  pub places-are : (i editable line top : ℕ) (before : Bool) (xs : List Section) → HaveRows (map views.shown_of_view (visible_views before (section_views_of s totals k i editable line xs)))
      → flat_map piece_places (map piece.Section (pieces.section_piece_list (first + top) (visible_views before (section_views_of s totals k i editable line xs))))
      ≡ places_from (section_places_by totals.sections k first) i (section_views_rows top before (section_views_of s totals k i editable line xs))
  unfolding section_views_of section_views_rows
  places-are i editable line top before [] h = refl
  places-are i editable line top before (x ∷ xs) h =
      go (is_section_visible before v.section.now (views.is_first_open vs)) h (λ t q. places-are (suc i) (editable_after editable x) (line + old_lines x) t (views.is_open v) xs q)
    where
      v : SectionView
      v = section_view_of s totals (section_key_of k i) editable line x

      vs : List SectionView
      vs = section_views_of s totals k (suc i) (editable_after editable x) (line + old_lines x) xs

      n : ℕ
      n = views.section_height v x

      below : ℕ → List Piece
      below t = map piece.Section (pieces.section_piece_list t (visible_views (views.is_open v) vs))

      from : ℕ → List Place
      from t = places_from (section_places_by totals.sections k first) (suc i) (section_views_rows t (views.is_open v) vs)

      go : (b : Bool) → HaveRows (map views.shown_of_view (if b then v ∷ visible_views (views.is_open v) vs else visible_views (views.is_open v) vs))
          → ((t : ℕ) → HaveRows (map views.shown_of_view (visible_views (views.is_open v) vs)) → flat_map piece_places (below (first + t)) ≡ from t)
          → flat_map piece_places (map piece.Section (pieces.section_piece_list (first + top) (if b then v ∷ visible_views (views.is_open v) vs else visible_views (views.is_open v) vs)))
          ≡ section_places_by totals.sections k first i (rows_at top (if b then n else 0) (shape_of x)) ++ from (top + (if b then n else 0))
      go true q more =
          let low : (first + top) + n ≡ first + (top + n) = omega arith in
          let some : nat_lt top (top + n) ≡ true = grind (arith, nat_tests, q.0, section-size v) in
          let own : section_places (pieces.section_piece_of v (first + top)) ≡ section_places_by totals.sections k first i (rows_at top n (shape_of x)) =
          rw some (ap (λ (p : SectionPiece). section_places p) (piece-is s totals k i editable line first top x)) in
          flat_map-cons piece_places (piece.Section (pieces.section_piece_of v (first + top))) (below ((first + top) + n))
          ∙ ap₂ (λ (ps qs : List Place). ps ++ qs) own
          (ap (λ t. flat_map piece_places (below t)) low ∙ more (top + n) q.1)
      go false q more =
          let same : top ≡ top + 0 = omega arith in
          let none : nat_lt top (top + 0) ≡ false = grind (arith, nat_tests) in
          rw none (ap (λ t. flat_map piece_places (below (first + t))) same ∙ more (top + 0) q)
