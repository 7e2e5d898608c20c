-- The rows from a row on to the end of its section have the same pieces, and show the lines that follow.
use Rattle.std.proofs.Common.{◌≡◌, ℕ, zero, suc, ◌+◌, ◌-◌, ◌<◌, ◌≤◌, ◌^◌, ◌&&◌, ◌==◌, Bool, true, false, List, [], ◌∷◌, length, Option, Some, None, refl, sym, ap, ap₂, subst, ◌∙◌, arith}
use Rattle.std.specs.Prelude.{nat_le, nat_lt, min, ◌||◌, if◌then◌else◌, option_and_then, slice_get}
use Rattle.std.specs.List.{All}
use Rattle.std.proofs.lemmas.Bool.{and_parts}
use Rattle.std.proofs.lemmas.Bool.Decides.{nat_tests}
use Rattle.std.proofs.lemmas.List.Elements.{All-head, All-tail}
use Rattle.std.proofs.lemmas.Option.{same_Some}
use Rattle.scm_types.specs.declared.keys.LineKey.{LineKey}
use Rattle.scm_types.specs.declared.keys.SelectionKey.{SelectionKey}
use Rattle.scm_types.specs.Keys.{line_key_of, section_key_of}
use Rattle.scm_widgets.specs.Layers.{is_within}
use Rattle.scm_widgets.specs.OverlayRects.{have_row}
use Rattle.scm_widgets.specs.declared.overlay_rects.OverlayRect.{OverlayRect}
use Rattle.scm_document.specs.declared.index_pieces.SectionPiece.{SectionPiece}
use Rattle.scm_rows.specs.declared.section_shape.SectionShape.{SectionShape}
use Rattle.scm_rows.specs.declared.section_shape.SectionShape.TheVariants as shapes
use Rattle.scm_rows.specs.declared.section_shape.SectionShape.TheVariants.{Changed}
use Rattle.scm_rows.specs.declared.row_kind.RowKind.TheVariants.{Header, Line, Context, Blank}
use Rattle.scm_rows.specs.Context.{dots_height, first_below, lines_above}
use Rattle.scm_rows.specs.Kinds.{row_kind}
use Rattle.scm_document.specs.SectionPieces.{kind_on}
use Rattle.scm_types.specs.declared.keys.SectionKey.{SectionKey}
use Rattle.scm_layout.specs.declared.file_rows.FileRows.{FileRows}
use Rattle.scm_layout.specs.declared.section_rows.SectionRows.{SectionRows}
use Rattle.scm_layout.specs.Rows.{file_key_of}
use Rattle.scm_layout.specs.Searches.{FollowFrom, file_on, index_on, section_on}
use Rattle.scm_layout_index.specs.declared.layout_index.LayoutIndex.{LayoutIndex}
use Rattle.scm_layout_index.specs.declared.row_owners.RowOwners.{RowOwners}
use Rattle.scm_document.specs.declared.index_pieces.RowPieces.{RowPieces}
use Rattle.scm_layout_index.specs.LayoutIndex.{AreRowOwners}
use Rattle.scm_layout_index.specs.LineRows.{end_of_pieces, line_below}
use Rattle.scm_layout_index.specs.OwnerRuns.{IsRun}
use Rattle.scm_layout_index.specs.RowPieces.{RowsFit, SectionsFit, file_of_rows, piece_at, pieces_on, section_in, section_of_rows}
use Rattle.scm_layout_index.specs.ShownLines.{line_among, line_in, line_of_kind}
use Rattle.scm_layout_index.proofs.OwnerRunLemmas.{IsSteady}

-- ---- a search for a row further down in the same element

module _ {A : Type 0} (top end : A → ℕ) (row : ℕ) where
  -- what has the row begins where the first begins, or below
  found-below : (t i j : ℕ) (xs : List A) → FollowFrom top end t xs → index_on top end row i xs ≡ Some j → t ≤ row
  found-below t i j [] h e = absurd (cc e)
  found-below t i j (x ∷ xs) h e = go (nat_le (top x) row && nat_lt row (end x)) refl e (λ e'. found-below (end x) (suc i) j xs h.2 e')
    where
      go : (b : Bool) → (nat_le (top x) row && nat_lt row (end x)) ≡ b → (if b then Some i else index_on top end row (suc i) xs) ≡ Some j
          → (index_on top end row (suc i) xs ≡ Some j → end x ≤ row) → t ≤ row
      go true p e' more =
          let at : top x ≡ t = h.0 in
          let low = (and_parts (nat_le (top x) row) (nat_lt row (end x)) p).0 in
          let le : top x ≤ row = grind (arith, nat_tests) in
          omega arith
      go false p e' more = let past = more e' in let le : t ≤ end x = h.1 in omega arith

  -- its index is counted from that of the first
  index-from : (i j : ℕ) (xs : List A) → index_on top end row i xs ≡ Some j → i ≤ j
  index-from i j [] e = absurd (cc e)
  index-from i j (x ∷ xs) e = go (nat_le (top x) row && nat_lt row (end x)) e (λ e'. index-from (suc i) j xs e')
    where
      go : (b : Bool) → (if b then Some i else index_on top end row (suc i) xs) ≡ Some j → (index_on top end row (suc i) xs ≡ Some j → suc i ≤ j) → i ≤ j
      go true e' more = let same = same_Some i j e' in omega arith
      go false e' more = let past = more e' in omega arith

module _ {A : Type 0} (top end : A → ℕ) (row y : ℕ) (down : row ≤ y) where
  -- element k has each row from one of its rows on to its end
  same-index : (t i k : ℕ) (xs : List A) (a : A) → FollowFrom top end t xs → index_on top end row i xs ≡ Some (i + k) → slice_get xs k ≡ Some a → y < end a
      → index_on top end y i xs ≡ Some (i + k)
  same-index t i k [] a h e at above = absurd (cc e)
  same-index t i k (x ∷ xs) a h e at above =
      go (nat_le (top x) row && nat_lt row (end x)) refl k e at (λ m e' at'. same-index (end x) (suc i) m xs a h.2 e' at' above)
    where
      go : (b : Bool) → (nat_le (top x) row && nat_lt row (end x)) ≡ b → (k : ℕ) → (if b then Some i else index_on top end row (suc i) xs) ≡ Some (i + k) → slice_get (x ∷ xs) k ≡ Some a
          → ((m : ℕ) → index_on top end row (suc i) xs ≡ Some (suc i + m) → slice_get xs m ≡ Some a → index_on top end y (suc i) xs ≡ Some (suc i + m))
          → (if nat_le (top x) y && nat_lt y (end x) then Some i else index_on top end y (suc i) xs) ≡ Some (i + k)
      go true p zero e' at' more =
          let is : x ≡ a = same_Some x a at' in
          let low = (and_parts (nat_le (top x) row) (nat_lt row (end x)) p).0 in
          let le : top x ≤ row = grind (arith, nat_tests) in
          let here : nat_le (top x) y ≡ true = grind (arith, nat_tests) in
          let inside : y < end x = subst (λ (b : A). y < end b) (sym is) above in
          let within : nat_lt y (end x) ≡ true = grind (arith, nat_tests) in
          let zeroth : i ≡ i + 0 = omega arith in
          rw (here, within) (ap Some zeroth)
      go true p (suc k) e' at' more = let same = same_Some i (i + suc k) e' in absurd (omega arith)
      go false p zero e' at' more = let past = index-from top end row (suc i) (i + 0) xs e' in absurd (omega arith)
      go false p (suc k) e' at' more =
          let step : i + suc k ≡ suc i + k = omega arith in
          let e'' : index_on top end row (suc i) xs ≡ Some (suc i + k) = e' ∙ ap Some step in
          let past : end x ≤ row = found-below top end row (end x) (suc i) (suc i + k) xs h.2 e'' in
          let beyond : nat_lt y (end x) ≡ false = grind (arith, nat_tests) in
          let rest = more k e'' at' in
          rw beyond (both (nat_le (top x) y) (rest ∙ ap Some (sym step)))
        where
          both : (b : Bool) → index_on top end y (suc i) xs ≡ Some (i + suc k) → (if b && false then Some i else index_on top end y (suc i) xs) ≡ Some (i + suc k)
          both true q = q
          both false q = q

  -- the first element has index 0
  same-found : (t k : ℕ) (xs : List A) (a : A) → FollowFrom top end t xs → index_on top end row 0 xs ≡ Some k → slice_get xs k ≡ Some a → y < end a → index_on top end y 0 xs ≡ Some k
  same-found t k xs a h e at above = let from : k ≡ 0 + k = omega arith in same-index t 0 k xs a h (e ∙ ap Some from) at above ∙ ap Some (sym from)

module _ {A : Type 0} (top end : A → ℕ) (y : ℕ) where
  has-from : (i k : ℕ) (xs : List A) (a : A) → index_on top end y i xs ≡ Some (i + k) → slice_get xs k ≡ Some a → (top a ≤ y) × (y < end a)
  has-from i k [] a e at = absurd (cc e)
  has-from i k (x ∷ xs) a e at = go (nat_le (top x) y && nat_lt y (end x)) refl k e at (λ m e' at'. has-from (suc i) m xs a e' at')
    where
      go : (b : Bool) → (nat_le (top x) y && nat_lt y (end x)) ≡ b → (k : ℕ) → (if b then Some i else index_on top end y (suc i) xs) ≡ Some (i + k) → slice_get (x ∷ xs) k ≡ Some a
          → ((m : ℕ) → index_on top end y (suc i) xs ≡ Some (suc i + m) → slice_get xs m ≡ Some a → (top a ≤ y) × (y < end a)) → (top a ≤ y) × (y < end a)
      go true p zero e' at' more =
          let is : x ≡ a = same_Some x a at' in
          let both = and_parts (nat_le (top x) y) (nat_lt y (end x)) p in
          let low = both.0 in
          let high = both.1 in
          let below : top x ≤ y = grind (arith, nat_tests) in
          let above : y < end x = grind (arith, nat_tests) in
          (subst (λ (b : A). top b ≤ y) is below, subst (λ (b : A). y < end b) is above)
      go true p (suc k) e' at' more = let same = same_Some i (i + suc k) e' in absurd (omega arith)
      go false p zero e' at' more = let past = index-from top end y (suc i) (i + 0) xs e' in absurd (omega arith)
      go false p (suc k) e' at' more = let step : i + suc k ≡ suc i + k = omega arith in more k (e' ∙ ap Some step) at'

  -- what is found has the row
  found-has : (k : ℕ) (xs : List A) (a : A) → index_on top end y 0 xs ≡ Some k → slice_get xs k ≡ Some a → (top a ≤ y) × (y < end a)
  found-has k xs a e at = let from : k ≡ 0 + k = omega arith in has-from 0 k xs a (e ∙ ap Some from) at

-- ---- the pieces of a row further down in the same section

module _ (selection : SelectionKey) (m : ℕ) where
  -- what a section's piece is made of
  record IsPiece (i : ℕ) (r : FileRows) (y : ℕ) (s : SectionPiece) : Type 0 where
    index : ℕ
    rows : SectionRows
    below : r.top < y
    on : section_on (y - (r.top + 1)) r.sections ≡ Some index
    at : slice_get r.sections index ≡ Some rows
    is : s ≡ section_of_rows selection (length r.sections) (section_key_of (file_key_of 0 i) index) (r.top + 1) rows

  piece-of : (i : ℕ) (r : FileRows) (y : ℕ) (s : SectionPiece) → section_in selection i r y ≡ Some s → IsPiece i r y s
  piece-of i r y s e = low (nat_le y r.top) refl e
    where
      of_rows : (j : ℕ) (o : Option SectionRows) → slice_get r.sections j ≡ o → section_on (y - (r.top + 1)) r.sections ≡ Some j → r.top < y
          → option_and_then (λ (q : SectionRows). Some (section_of_rows selection (length r.sections) (section_key_of (file_key_of 0 i) j) (r.top + 1) q)) o ≡ Some s → IsPiece i r y s
      of_rows j None at on below q = absurd (cc q)
      of_rows j (Some rows) at on below q = record {
        index = j;
        rows = rows;
        below = below;
        on = on;
        at = at;
        is = sym (same_Some (section_of_rows selection (length r.sections) (section_key_of (file_key_of 0 i) j) (r.top + 1) rows) s q);
      }

      of_index : (o : Option ℕ) → section_on (y - (r.top + 1)) r.sections ≡ o → r.top < y → option_and_then (piece_at selection i r) o ≡ Some s → IsPiece i r y s
      of_index None on below q = absurd (cc q)
      of_index (Some j) on below q = of_rows j (slice_get r.sections j) refl on below q

      low : (b : Bool) → nat_le y r.top ≡ b → (if b then None else option_and_then (piece_at selection i r) (section_on (y - (r.top + 1)) r.sections)) ≡ Some s → IsPiece i r y s
      low true p q = absurd (cc q)
      low false p q = of_index (section_on (y - (r.top + 1)) r.sections) refl (grind (arith, nat_tests)) q

  same-section : (i : ℕ) (r : FileRows) (row y : ℕ) (s : SectionPiece) → SectionsFit r → section_in selection i r row ≡ Some s → row ≤ y → y < s.end → section_in selection i r y ≡ Some s
  same-section i r row y s fit e down above =
      let p = piece-of i r row s e in
      let end : s.end ≡ r.top + 1 + p.rows.end = ap (λ (q : SectionPiece). q.end) p.is in
      let under = p.below in
      let low : nat_le y r.top ≡ false = grind (arith, nat_tests) in
      let on = same-found (λ (q : SectionRows). q.top) (λ (q : SectionRows). q.end) (row - (r.top + 1)) (y - (r.top + 1)) (omega arith) fit.follow.top p.index r.sections p.rows fit.follow.follow p.on p.at (omega arith) in
      let at = p.at in
      rw (low, on, at) (ap Some (sym p.is))

  -- what the pieces of a row are made of
  record AreOf (rs : List FileRows) (y : ℕ) (p : RowPieces) : Type 0 where
    index : ℕ
    rows : FileRows
    on : file_on y rs ≡ Some index
    at : slice_get rs index ≡ Some rows
    is : p ≡ record { file = file_of_rows m index rows; section = section_in selection index rows y }

  pieces-of : (rs : List FileRows) (y : ℕ) (p : RowPieces) → pieces_on selection m y rs ≡ Some p → AreOf rs y p
  pieces-of rs y p e = of_index (file_on y rs) refl e
    where
      pieces : ℕ → FileRows → RowPieces
      pieces i r = record { file = file_of_rows m i r; section = section_in selection i r y }

      of_rows : (i : ℕ) (o : Option FileRows) → slice_get rs i ≡ o → file_on y rs ≡ Some i
          → option_and_then (λ (r : FileRows). Some (pieces i r)) o ≡ Some p → AreOf rs y p
      of_rows i None at on q = absurd (cc q)
      of_rows i (Some r) at on q = record { index = i; rows = r; on = on; at = at; is = sym (same_Some (pieces i r) p q) }

      of_index : (o : Option ℕ) → file_on y rs ≡ o → option_and_then (λ (i : ℕ). option_and_then (λ (r : FileRows). Some (pieces i r)) (slice_get rs i)) o ≡ Some p → AreOf rs y p
      of_index None on q = absurd (cc q)
      of_index (Some i) on q = of_rows i (slice_get rs i) refl on q

  same-pieces : (rs : List FileRows) (row y : ℕ) (p : RowPieces) (s : SectionPiece) → RowsFit rs → pieces_on selection m row rs ≡ Some p → p.section ≡ Some s → row ≤ y → y < p.file.end → y < s.end
      → pieces_on selection m y rs ≡ Some p
  same-pieces rs row y p s fit e own down in_file in_section =
      let o = pieces-of rs row p e in
      let end : p.file.end ≡ o.rows.end = ap (λ (q : RowPieces). q.file.end) o.is in
      let section : section_in selection o.index o.rows row ≡ Some s = sym (ap (λ (q : RowPieces). q.section) o.is) ∙ own in
      let below : section_in selection o.index o.rows y ≡ Some s = same-section o.index o.rows row y s (fit.sections o.index o.rows o.at) section down in_section in
      let on = same-found (λ (r : FileRows). r.top) (λ (r : FileRows). r.end) row y down fit.follow.top o.index rs o.rows fit.follow.follow o.on o.at (omega arith) in
      let at = o.at in
      let same : section_in selection o.index o.rows y ≡ section_in selection o.index o.rows row = below ∙ sym section in
      rw (on, at) (ap (λ (q : Option SectionPiece). Some (record { file = file_of_rows m o.index o.rows; section = q })) same ∙ ap Some (sym o.is))

-- ---- lines

-- the pieces of a row that shows a line, and its section
record ShowsLine (i : LayoutIndex) (y : ℕ) (k : LineKey) : Type 0 where
  pieces : RowPieces
  section : SectionPiece
  found : pieces_on i.selection i.pinned y i.rows.files ≡ Some pieces
  own : pieces.section ≡ Some section
  bare : have_row i.rects y ≡ false
  shape : section.shape ≡ Changed
  below : section.top < y
  above : y < section.end
  inside : y < pieces.file.end
  under : pieces.file.top < y
  line : k ≡ line_key_of section.key (y - section.top - 1)

module _ (i : LayoutIndex) (y : ℕ) (k : LineKey) where
  of-changed : (p : RowPieces) (s : SectionPiece) → pieces_on i.selection i.pinned y i.rows.files ≡ Some p → p.section ≡ Some s → have_row i.rects y ≡ false → s.shape ≡ Changed → ((y - s.top) == 0) ≡ false
      → Some (line_key_of s.key (y - s.top - 1)) ≡ Some k → ShowsLine i y k
  of-changed p s f own bare shape first q =
      let o = pieces-of i.selection i.pinned i.rows.files y p f in
      let file_top : p.file.top ≡ o.rows.top = ap (λ (r : RowPieces). r.file.top) o.is in
      let file_end : p.file.end ≡ o.rows.end = ap (λ (r : RowPieces). r.file.end) o.is in
      let section : section_in i.selection o.index o.rows y ≡ Some s = sym (ap (λ (r : RowPieces). r.section) o.is) ∙ own in
      let d = piece-of i.selection i.pinned o.index o.rows y s section in
      let end : s.end ≡ o.rows.top + 1 + d.rows.end = ap (λ (r : SectionPiece). r.end) d.is in
      let in_file = found-has (λ (r : FileRows). r.top) (λ (r : FileRows). r.end) y o.index i.rows.files o.rows o.on o.at in
      let in_section = found-has (λ (r : SectionRows). r.top) (λ (r : SectionRows). r.end) (y - (o.rows.top + 1)) d.index o.rows.sections d.rows d.on d.at in
      let h0 = in_file.1 in
      let h1 = in_section.1 in
      let h2 = d.below in
      record {
        pieces = p;
        section = s;
        found = f;
        own = own;
        bare = bare;
        shape = shape;
        below = grind (arith, nat_tests);
        above = omega arith;
        inside = omega arith;
        under = omega arith;
        line = sym (same_Some (line_key_of s.key (y - s.top - 1)) k q);
      }

  -- a row of context shows no changed line
  of-context : (key : SectionKey) (a b : Bool) (m n : ℕ) → line_of_kind key (if a then Context m else if b then Context n else Blank) ≡ None
  of-context key true b m n = refl
  of-context key false true m n = refl
  of-context key false false m n = refl

  of-shape : (p : RowPieces) (s : SectionPiece) → pieces_on i.selection i.pinned y i.rows.files ≡ Some p → p.section ≡ Some s → have_row i.rects y ≡ false
      → (shape : SectionShape) → s.shape ≡ shape → line_of_kind s.key (row_kind s.place shape (y - s.top)) ≡ Some k → ShowsLine i y k
  of-shape p s f own bare (shapes.Context n) h q =
      let j = y - s.top in
      let top = lines_above s.place n + dots_height s.place n in
      let none = of-context s.key (nat_lt j (lines_above s.place n)) (nat_le top j && nat_lt (j - top) (n - first_below s.place n)) j (first_below s.place n + (j - top)) in
      absurd (cc (none, q))
  of-shape p s f own bare shapes.Mark h q = absurd (cc q)
  of-shape p s f own bare shapes.Changed h q = first ((y - s.top) == 0) refl q
    where
      first : (b : Bool) → ((y - s.top) == 0) ≡ b → line_of_kind s.key (if b then Header else Line (y - s.top - 1)) ≡ Some k → ShowsLine i y k
      first true e q' = absurd (cc q')
      first false e q' = of-changed p s f own bare h e q'

  of-section : (p : RowPieces) → pieces_on i.selection i.pinned y i.rows.files ≡ Some p → have_row i.rects y ≡ false → (o : Option SectionPiece) → p.section ≡ o
      → option_and_then (λ (s : SectionPiece). line_of_kind s.key (kind_on s (y - s.top))) o ≡ Some k → ShowsLine i y k
  of-section p f bare None own q = absurd (cc q)
  of-section p f bare (Some s) own q = of-shape p s f own bare s.shape refl q

  of-file : (p : RowPieces) → pieces_on i.selection i.pinned y i.rows.files ≡ Some p → have_row i.rects y ≡ false → (b : Bool)
      → (if b then None else option_and_then (λ (s : SectionPiece). line_of_kind s.key (kind_on s (y - s.top))) p.section) ≡ Some k → ShowsLine i y k
  of-file p f bare true q = absurd (cc q)
  of-file p f bare false q = of-section p f bare p.section refl q

  of-pieces : (o : Option RowPieces) → pieces_on i.selection i.pinned y i.rows.files ≡ o → have_row i.rects y ≡ false → option_and_then (line_among y) o ≡ Some k → ShowsLine i y k
  of-pieces None f bare q = absurd (cc q)
  of-pieces (Some p) f bare q = of-file p f bare (y == p.file.top) q

  shows-line : line_in i y ≡ Some k → ShowsLine i y k
  shows-line e = bared (have_row i.rects y) refl e
    where
      bared : (b : Bool) → have_row i.rects y ≡ b → (if b then None else option_and_then (line_among y) (pieces_on i.selection i.pinned y i.rows.files)) ≡ Some k → ShowsLine i y k
      bared true h q = absurd (cc q)
      bared false h q = of-pieces (pieces_on i.selection i.pinned y i.rows.files) refl h q

-- the end of its section, on a row that shows a line
end-is : (i : LayoutIndex) (r : RowOwners) (k : LineKey) → AreRowOwners i r → (l : ShowsLine i r.row k) → end_of_pieces r.found ≡ min l.section.end l.pieces.file.end
end-is i r k are l = let found = are.found ∙ l.found in let own = l.own in rw (found, own) refl

-- it lies below the row
pub end-past : (i : LayoutIndex) (r : RowOwners) (k : LineKey) → AreRowOwners i r → line_in i r.row ≡ Some k → r.row < end_of_pieces r.found
end-past i r k are e =
    let l = shows-line i r.row k e in
    let end = end-is i r k are l in
    let above = l.above in
    let inside = l.inside in
    omega arith

-- and is near enough to be counted, as the lines before it are
pub end-most : (i : LayoutIndex) (r : RowOwners) (k : LineKey) → AreRowOwners i r → RowsFit i.rows.files → line_in i r.row ≡ Some k → end_of_pieces r.found < 2 ^ 63
end-most i r k are fit e =
    let l = shows-line i r.row k e in
    let o = pieces-of i.selection i.pinned i.rows.files r.row l.pieces l.found in
    let section : section_in i.selection o.index o.rows r.row ≡ Some l.section = sym (ap (λ (q : RowPieces). q.section) o.is) ∙ l.own in
    let p = piece-of i.selection i.pinned o.index o.rows r.row l.section section in
    let end : l.section.end ≡ o.rows.top + 1 + p.rows.end = ap (λ (q : SectionPiece). q.end) p.is in
    let near = (fit.sections o.index o.rows o.at).ends p.index p.rows p.at in
    let is = end-is i r k are l in
    omega (arith, near)

-- the rows from there to its end hold fewer lines than rows
pub few-lines : (i : LayoutIndex) (r : RowOwners) (k : LineKey) (e : ℕ) → AreRowOwners i r → line_in i r.row ≡ Some k → e ≤ end_of_pieces r.found → r.row < e → k.line_idx + (e - r.row) ≤ e
few-lines i r k e are shows most past =
    let l = shows-line i r.row k shows in
    let line : k.line_idx ≡ r.row - l.section.top - 1 = ap (λ (q : LineKey). q.line_idx) l.line in
    omega arith

-- the rows below it show the lines that follow, as far as the same lies over them
pub line-down : (i : LayoutIndex) (r : RowOwners) (k : LineKey) (e : ℕ) → AreRowOwners i r → RowsFit i.rows.files → line_in i r.row ≡ Some k
    → IsRun (have_row i.rects) (end_of_pieces r.found) r.row e → (n : ℕ) → r.row + n < e → line_in i (r.row + n) ≡ Some (line_below k n)
line-down i r k e are fit shows run n within =
    let l = shows-line i r.row k shows in
    let y = r.row + n in
    let end = end-is i r k are l in
    let most = run.most in
    let s = l.section in
    let bare : have_row i.rects y ≡ false = run.same y (omega arith) within ∙ l.bare in
    let found : pieces_on i.selection i.pinned y i.rows.files ≡ Some l.pieces =
    same-pieces i.selection i.pinned i.rows.files r.row y l.pieces s fit l.found l.own (omega arith) (omega arith) (omega arith) in
    let own = l.own in
    let shape = l.shape in
    let under = l.under in
    let below = l.below in
    let not_top : (y == l.pieces.file.top) ≡ false = grind (arith, nat_tests) in
    let not_first : ((y - s.top) == 0) ≡ false = grind (arith, nat_tests) in
    let down : y - s.top - 1 ≡ (r.row - s.top - 1) + n = omega arith in
    rw (bare, found, not_top, own, shape, not_first)
    (ap (λ (j : ℕ). Some (line_key_of s.key j)) down ∙ ap (λ (q : LineKey). Some (line_below q n)) (sym l.line))

-- ---- what lies over rows

-- rows over which each of the rectangles lies, or does not, as it does over the first
pub one-cover : (rs : List OverlayRect) (c e y : ℕ) → All (IsSteady (λ (r : OverlayRect). is_within r.rect.y r.rect.height) c e) rs → c ≤ y → y < e → have_row rs y ≡ have_row rs c
one-cover [] c e y h low high = refl
one-cover (r ∷ rs) c e y h low high =
    let steady = IsSteady (λ (r : OverlayRect). is_within r.rect.y r.rect.height) c e in
    ap₂ (λ (a b : Bool). a || b) (All-head steady r rs h y low high) (one-cover rs c e y (All-tail steady r rs h) low high)
