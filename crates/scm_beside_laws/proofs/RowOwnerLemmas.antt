-- Who owns the columns of the rows of a section that is drawn in an area, by the boxes that are drawn: whom its strips name.
use Rattle.std.proofs.Common.{◌≡◌, ℕ, suc, ◌+◌, ◌≤◌, max, Bool, true, false, cond, List, [], ◌∷◌, ◌++◌, length, map, fold, refl, sym, ap, ap₂, ◌∙◌, arith, subst, append-nil, ◌⊎◌, inl, inr}
use Rattle.std.specs.Prelude.{ℤ, pos, ◌+ℤ◌, ◌-ℤ◌, ◌≤ℤ◌, ◌<ℤ◌, ◌&&◌, ◌||◌, int_le, int_lt, Some, None, if◌then◌else◌}
use Rattle.std.specs.Int.{int_min}
use Rattle.std.specs.Ordering.{int_eq}
use Rattle.std.proofs.lemmas.Int.{ints}
use Rattle.std.proofs.lemmas.List.{length-map}
use Rattle.scm_cells.specs.Clusters.{text_width}
use Rattle.scm_cells.specs.Rect.{end_x_of}
use Rattle.scm_cells.specs.declared.rect.Rect.{Rect}
use Rattle.scm_cells.proofs.RectLemmas.{places}
use Rattle.scm_render.specs.Canvas.{Sight}
use Rattle.scm_render.specs.Drawing.{span_picture, blank_picture, texts_width}
use Rattle.scm_render.specs.Hits.{IsLawful, first_of_two, has_id, hit}
use Rattle.scm_render.specs.Lines.{line}
use Rattle.scm_render.specs.Picture.{nothing, followed_by, covering, part, box_rect}
use Rattle.scm_render.proofs.LineLemmas.{z_cases}
use Rattle.scm_types.specs.declared.keys.FileKey.{FileKey}
use Rattle.scm_types.specs.declared.keys.SectionKey.{SectionKey}
use Rattle.scm_types.specs.declared.keys.SelectionKey.TheVariants as selection
use Rattle.scm_widgets.specs.declared.ids.ComponentId.{ComponentId}
use Rattle.scm_widgets.specs.declared.ids.ComponentId.TheVariants as ids
use Rattle.scm_widgets.specs.Boxes.{IdBox}
use Rattle.scm_widgets.specs.Clicks.{is_clickable}
use Rattle.scm_widgets.specs.Layers.{Strip, clear, over, owned}
use Rattle.scm_widgets.specs.Pictures.{box_part, box_picture, fold_column, highlight}
use Rattle.scm_widgets.specs.Texts.{box_text}
use Rattle.scm_widgets.proofs.BoxLemmas.{box-width}
use Rattle.scm_widgets.proofs.ButtonLemmas.{IsId, holds-nothing, holds-text}
use Rattle.scm_widgets.proofs.DrawsStrips.{HasBox, draws_below, draws_both, draws_nothing, draws_part}
use Rattle.scm_document.specs.Owners.{IsRowOf, after_row, AreRowsOf, AreSectionsOf}
use Rattle.scm_document.specs.Pictures.{changed_picture, context_picture, heading_picture, heading_width, row_picture, rows_picture, sections_picture, title_picture}
use Rattle.scm_document.specs.Rows.{Heading, DocRow, HeaderRow, SectionRow, LineRow, MarkRow, ContextRow, DotsRow, BlankRow, ShownSection, line_id, section_id}
use Rattle.scm_document.specs.Strips.{is_whole, is_wide}
use Rattle.scm_document.proofs.BoxLemmas.{left_of}
use Rattle.scm_document.proofs.OwnerLemmas.{rows-inner}
use Rattle.scm_document.proofs.StripLemmas.{beside_fold}
use Rattle.scm_overlay.proofs.MenuLemmas.{differ, line-beside}
use Rattle.scm_strips.specs.declared.area.Area.{Area}
use Rattle.scm_strips.specs.AreaStrips.{area_section, area_sections, area_strip, owned_in, section_part}
use Rattle.scm_strips.specs.Parts.{Part, end_of_texts, has_column, heading_from, heading_parts, is_between, owner_in, row_from, three, title_end}
use Rattle.scm_strips.specs.Shows.{FileRow}
use Rattle.scm_view.proofs.OwnerLemmas.{IsAmong, IsFrom, IsOf, IsSectionFrom, Owns, index-of, is_item, no_rows, none-seen, owns-as, owns-more, owns-none, rank_of, section_of, text-none}
use Rattle.scm_beside_laws.proofs.AreaBoxLemmas.{Lies, changed-lies, context-lies, farthest, rows-lie}
use Rattle.scm_beside_laws.proofs.DrawnWidthLemmas.{box-empty}
use Rattle.scm_beside_laws.proofs.SeenLemmas.{IsSeen, fold-at}

-- ---- columns of the screen and of an area

le-same : (a b c d : ℤ) → b -ℤ a ≡ d -ℤ c → int_le a b ≡ int_le c d
le-same a b c d e = go (z_cases b a)
  where
    go : (b <ℤ a) ⊎ (a ≤ℤ b) → int_le a b ≡ int_le c d
    go (inl h) =
        let k : d <ℤ c = omega (arith, ints, e, h) in
        let p : int_le a b ≡ false = grind (arith, ints, h) in
        let q : int_le c d ≡ false = grind (arith, ints, k) in
        p ∙ sym q
    go (inr h) =
        let k : c ≤ℤ d = omega (arith, ints, e, h) in
        let p : int_le a b ≡ true = grind (arith, ints, h) in
        let q : int_le c d ≡ true = grind (arith, ints, k) in
        p ∙ sym q

lt-same : (a b c d : ℤ) → b -ℤ a ≡ d -ℤ c → int_lt a b ≡ int_lt c d
lt-same a b c d e = go (z_cases a b)
  where
    go : (a <ℤ b) ⊎ (b ≤ℤ a) → int_lt a b ≡ int_lt c d
    go (inl h) =
        let k : c <ℤ d = omega (arith, ints, e, h) in
        let p : int_lt a b ≡ true = grind (arith, ints, h) in
        let q : int_lt c d ≡ true = grind (arith, ints, k) in
        p ∙ sym q
    go (inr h) =
        let k : d ≤ℤ c = omega (arith, ints, e, h) in
        let p : int_lt a b ≡ false = grind (arith, ints, h) in
        let q : int_lt c d ≡ false = grind (arith, ints, k) in
        p ∙ sym q

-- columns f..t of the screen are columns g..u of an area from column l on
pub between-same : (l x : ℕ) (f t g u : ℤ) → f ≡ pos l +ℤ g → t ≡ pos l +ℤ u → (int_le f (pos x) && int_lt (pos x) t) ≡ is_between g u (pos x -ℤ pos l)
between-same l x f t g u p q =
    ap₂ (λ (a b : Bool). a && b) (le-same f (pos x) g (pos x -ℤ pos l) (omega (arith, ints, p))) (lt-same (pos x) t (pos x -ℤ pos l) u (omega (arith, ints, q)))

-- the columns of a part, as a test of a column of the screen
abbrev pub in_part : Area → Part → ℕ → Bool
in_part a p x = has_column p (pos x -ℤ pos a.left)

-- a rectangle has the columns of a part
pub has-part : (r : Rect) (a : Area) (y : ℤ) (n w f t : ℕ) (p : Part) → p.from ≡ pos f → p.to ≡ pos t → Lies r y n (pos (a.left + f)) (pos (a.left + t)) → HasBox r y n w (in_part a p)
has-part r a y n w f t p from to h = record {
  top = h.top;
  rows = h.rows;
  columns = λ x within. between-same a.left x r.x (end_x_of r) p.from p.to (h.left ∙ omega (arith, ints, from)) (h.right ∙ omega (arith, ints, to));
}

-- ---- parts of one row

-- a strip that shows nothing, whose columns the first of these parts owns
abbrev pub part_strip : Area → List Part → Strip ComponentId
part_strip a ps = record { shows = λ row. row; owner = λ x. owner_in ps (pos x -ℤ pos a.left) }

pub one-owner : (a b : Strip ComponentId) → ((x : ℕ) → a.owner x ≡ b.owner x) → (y z : ℤ) (x : ℕ) → (line clear (a ∷ []) y z).owner x ≡ (line clear (b ∷ []) y z).owner x
unfolding line
one-owner a b e y z x = elim (int_eq z y) as (λ t. (cond t a clear).owner x ≡ (cond t b clear).owner x) [ true ↦ e x | false ↦ refl ]

-- one part, and others behind it
pub owner-more : (p : Part) (ps : List Part) (x : ℤ) → first_of_two (owner_in (p ∷ []) x) (owner_in ps x) ≡ owner_in (p ∷ ps) x
unfolding owner_in
owner-more p ps x = go (has_column p x)
  where
    go : (b : Bool) → first_of_two (if b then Some p.id else None) (owner_in ps x) ≡ (if b then Some p.id else owner_in ps x)
    go true = refl
    go false = refl

-- parts, and one more behind them
pub owner-last : (ps : List Part) (p : Part) (x : ℤ) → first_of_two (owner_in ps x) (cond (has_column p x) (Some p.id) None) ≡ owner_in (ps ++ p ∷ []) x
unfolding owner_in
owner-last [] p x = refl
owner-last (q ∷ ps) p x = go (has_column q x) (owner-last ps p x)
  where
    go : (b : Bool) → first_of_two (owner_in ps x) (cond (has_column p x) (Some p.id) None) ≡ owner_in (ps ++ p ∷ []) x
        → first_of_two (if b then Some q.id else owner_in ps x) (cond (has_column p x) (Some p.id) None) ≡ (if b then Some q.id else owner_in (ps ++ p ∷ []) x)
    go true h = refl
    go false h = h

cell : (a : Area) (p : Part) (y z : ℤ) (x : ℕ) → cond (int_eq z y && in_part a p x) (Some p.id) None ≡ (line clear (part_strip a (p ∷ []) ∷ []) y z).owner x
unfolding line owner_in
cell a p y z x = elim (int_eq z y) as (λ t. cond (t && in_part a p x) (Some p.id) None ≡ (cond t (part_strip a (p ∷ [])) clear).owner x) [ true ↦ refl | false ↦ refl ]

module _ (same : ComponentId → ComponentId → Bool) where
  -- a box at column c of the area owns its three columns
  pub box-owns : (b : IdBox) (s : Sight) (w : ℕ) (a : Area) (x c y : ℤ) → x ≡ pos a.left +ℤ c → is_clickable b.id ≡ true → Owns same w (IsId b.id) (box_part b s x y) y (part_strip a (three c b.id ∷ []) ∷ [])
  unfolding part box_picture span_picture box_rect hit has_id
  box-owns b s w a x c y here click = record {
    paints = λ z row p q. absurd (none-seen w z p);
    owns = λ rep live z k p.
        rw (click, live b.id refl, holds-text x y z (text_width (box_text b)) k, box-width b)
        (ap (λ t. cond (int_eq z y && t) (Some b.id) None) (between-same a.left k x (x +ℤ pos 3) c (c +ℤ pos 3) here (omega (arith, ints, here))) ∙ cell a (three c b.id) y z k);
    ids = (refl, tt);
  }

-- ---- headings

title-boxes : (b : IdBox) (t : List ℕ) (n : ℕ) (s : Sight) (x y : ℤ) → (title_picture b t n s x y).boxes ≡ (box_part b s x y).boxes
unfolding title_picture followed_by blank_picture part box_picture span_picture
title-boxes b t n s x y = rw (text-none s (x +ℤ pos 4) y (t ∷ [])) refl

pub heading-boxes : (h : Heading) (s : Sight) (c : ℕ) (y : ℤ)
    → (heading_picture h s (pos c) y).boxes ≡ (followed_by (box_part h.fold s (fold_column s) y) (box_part h.toggle (beside_fold s c y) (pos c) y)).boxes
unfolding heading_picture followed_by
heading-boxes h s c y = rw (title-boxes h.toggle h.title (heading_width s (pos c)) (beside_fold s c y) (pos c) y) refl

module _ (same : ComponentId → ComponentId → Bool) (law : IsLawful same) where
  pub heading-owns : (h : Heading) (s : Sight) (w : ℕ) (a : Area) (c : ℕ) (y : ℤ) (P : ComponentId → Type 0) → 3 ≤ a.width → IsSeen s w a → is_clickable h.toggle.id ≡ true → is_clickable h.fold.id ≡ true
      → (h.fold.id ≡ h.toggle.id → ⊥) → P h.toggle.id → P h.fold.id
      → Owns same w P (heading_picture h s (pos (a.left + c)) y) y (part_strip a (heading_parts a.width c h.toggle.id h.fold.id) ∷ [])
  heading-owns h s w a c y P some o ct cf apart p q =
      let x = pos (a.left + c) in
      let end = pos a.width -ℤ pos 3 in
      let at = fold-at s w a some o in
      let fold = box_part h.fold s (fold_column s) y in
      let toggle = box_part h.toggle (beside_fold s (a.left + c) y) x y in
      let one = part_strip a (three (pos c) h.toggle.id ∷ []) in
      let other = part_strip a (three end h.fold.id ∷ []) in
      let both : Owns same w P (followed_by fold toggle) y (over one other ∷ []) =
      draws_both same is_clickable (no_rows w) (IsId h.fold.id) (IsId h.toggle.id) P fold toggle y y (other ∷ []) (one ∷ []) _
      (box-owns same h.fold s w a (fold_column s) end y (omega (arith, ints, at, some)) cf) (box-owns same h.toggle (beside_fold s (a.left + c) y) w a x (pos c) y (omega (arith, ints)) ct)
      (λ i j e f. differ same law i j (λ g. apart (sym e ∙ g ∙ f))) (λ i e. subst P (sym e) q) (λ i e. subst P (sym e) p)
      (λ z. line-beside one other [] y z) in
      owns-as same w P (followed_by fold toggle) (heading_picture h s x y) y _ (part_strip a (heading_parts a.width c h.toggle.id h.fold.id) ∷ []) (sym (heading-boxes h s (a.left + c) y))
      (λ z k. one-owner (over one other) (part_strip a (heading_parts a.width c h.toggle.id h.fold.id))
      (λ k. owner-more (three (pos c) h.toggle.id) (three end h.fold.id ∷ []) (pos k -ℤ pos a.left)) y z k) both

-- ---- rows

highlight-boxes : (b : Bool) (s : Sight) (y : ℤ) → (highlight b s y).boxes ≡ []
unfolding covering nothing
highlight-boxes true s y = refl
highlight-boxes false s y = refl

section_row : (h : Heading) (selected : Bool) (s : Sight) (x y : ℤ) → (heading_picture h s x y).boxes ≡ (row_picture (SectionRow selected h) s x y).boxes
unfolding row_picture followed_by
section_row h selected s x y = rw (highlight-boxes selected s y) (sym (append-nil (heading_picture h s x y).boxes))

mark_row : (selected : Bool) (b : IdBox) (t : List ℕ) (s : Sight) (x y : ℤ) → (box_part b s x y).boxes ≡ (row_picture (MarkRow selected b t) s x y).boxes
unfolding row_picture followed_by covering part box_picture span_picture
mark_row selected b t s x y = rw (text-none s (x +ℤ pos 4) y (t ∷ []), highlight-boxes selected s y) refl

pub line_row : (b : IdBox) (ts : List (List ℕ)) (s : Sight) (x y : ℤ) → (box_part b s x y).boxes ≡ (changed_picture b ts s x y).boxes
unfolding changed_picture followed_by covering part box_picture span_picture
line_row b ts s x y = rw (text-none s (x +ℤ pos 4) y ts) refl

pub context_row : (ts : List (List ℕ)) (s : Sight) (x y : ℤ) → (context_picture ts s x y).boxes ≡ []
unfolding context_picture followed_by covering
context_row ts s x y = text-none s x y ts

dots_row : (t : List ℕ) (s : Sight) (x y : ℤ) → (row_picture (DotsRow t) s x y).boxes ≡ []
unfolding row_picture followed_by covering span_picture
dots_row t s x y = refl

blank_row : (s : Sight) (x y : ℤ) → (row_picture BlankRow s x y).boxes ≡ []
unfolding row_picture blank_picture
blank_row s x y = refl

module _ (same : ComponentId → ComponentId → Bool) (law : IsLawful same) where
  -- each row's boxes own what its parts say
  pub row-owns : (k : SectionKey) (n : ℕ) (d : DocRow) (s : Sight) (w : ℕ) (a : Area) (y : ℤ) → 10 ≤ a.width → IsSeen s w a → IsRowOf k n d
      → Owns same w (IsAmong k n (after_row n d)) (row_picture d s (pos (a.left + 2)) y) y (area_strip a (FileRow d) ∷ [])
  unfolding row_picture followed_by covering owner_in
  row-owns k n (HeaderRow key h) s w a y fits o e = absurd e
  row-owns k n (SectionRow selected h) s w a y fits o e =
      let x = pos (a.left + 2) in
      let toggle : IsAmong k n 1 (ids.ToggleBox (selection.Section k)) = record { section = refl; low = omega (arith, e.0); high = omega arith; inner = λ q. absurd (cc q) } in
      let fold : IsAmong k n 1 (ids.ExpandBox (selection.Section k)) = record { section = refl; low = omega (arith, e.0); high = omega arith; inner = λ q. absurd (cc q) } in
      owns-as same w (IsAmong k n 1) (heading_picture h s x y) (row_picture (SectionRow selected h) s x y) y (part_strip a (heading_parts a.width 2 h.toggle.id h.fold.id) ∷ []) (area_strip a (FileRow (SectionRow selected h)) ∷ [])
      (section_row h selected s x y) (λ z i. one-owner (part_strip a (heading_parts a.width 2 h.toggle.id h.fold.id)) (area_strip a (FileRow (SectionRow selected h))) (λ i. refl) y z i)
      (heading-owns same law h s w a 2 y (IsAmong k n 1) (omega (arith, fits)) o (ap is_clickable e.1) (ap is_clickable e.2) (λ q. cc (e.1, e.2, q)) (subst (IsAmong k n 1) (sym e.1) toggle) (subst (IsAmong k n 1) (sym e.2) fold))
  row-owns k n (LineRow key b ts) s w a y fits o e =
      let m = suc (suc key.line_idx) in
      let x = pos (a.left + 2) +ℤ pos 2 in
      let v = a.width in
      let box = part_strip a (three (pos 4) b.id ∷ []) in
      let whole : Part = record { id = line_id key; from = pos 0; to = pos (max 7 (max v (end_of_texts 8 (texts_width ts)))) } in
      let itself : IsAmong k n m (line_id key) = record { section = ap Some e.1; low = omega (arith, e.0); high = omega arith; inner = λ q. omega arith } in
      let toggle : IsAmong k n m (ids.ToggleBox (selection.Line key)) = record { section = ap Some e.1; low = omega (arith, e.0); high = omega arith; inner = λ q. absurd (cc q) } in
      owns-as same w (IsAmong k n m) (part (line_id key) (changed_picture b ts s x y)) (row_picture (LineRow key b ts) s (pos (a.left + 2)) y) y _ (area_strip a (FileRow (LineRow key b ts)) ∷ []) refl
      (λ z i. one-owner (owned (line_id key) (in_part a whole) box) (area_strip a (FileRow (LineRow key b ts))) (λ i. owner-last (three (pos 4) b.id ∷ []) whole (pos i -ℤ pos a.left)) y z i)
      (draws_part same is_clickable (no_rows w) (IsId b.id) (IsAmong k n m) (line_id key) (changed_picture b ts s x y) y (box ∷ []) (in_part a whole)
      (owns-as same w (IsId b.id) (box_part b s x y) (changed_picture b ts s x y) y _ _ (line_row b ts s x y) (λ z i. refl) (box-owns same b s w a x (pos 4) y (omega (arith, ints)) (ap is_clickable e.2)))
      (has-part _ a y 1 w 0 (max v (end_of_texts 8 (texts_width ts))) whole refl (ap pos (omega (arith, fits))) (changed-lies b ts s w a x y (omega (arith, ints)) fits o))
      refl (λ j p. differ same law (line_id key) j (λ q. cc (q, p, e.2))) itself (λ j p. subst (IsAmong k n m) (sym (p ∙ e.2)) toggle))
  row-owns k n (MarkRow selected b t) s w a y fits o e =
      let x = pos (a.left + 2) in
      let box : IsAmong k n 1 (ids.ToggleBox (selection.Section k)) = record { section = refl; low = omega (arith, e.0); high = omega arith; inner = λ q. absurd (cc q) } in
      owns-as same w (IsAmong k n 1) (box_part b s x y) (row_picture (MarkRow selected b t) s x y) y _ (area_strip a (FileRow (MarkRow selected b t)) ∷ []) (mark_row selected b t s x y)
      (λ z i. one-owner (part_strip a (three (pos 2) b.id ∷ [])) (area_strip a (FileRow (MarkRow selected b t))) (λ i. refl) y z i)
      (owns-more same w (IsId b.id) (IsAmong k n 1) _ y _ (λ i p. subst (IsAmong k n 1) (sym (p ∙ e.1)) box) (box-owns same b s w a x (pos 2) y (omega (arith, ints)) (ap is_clickable e.1)))
  row-owns k n (ContextRow key ts) s w a y fits o e =
      let m = suc (suc key.line_idx) in
      let x = pos (a.left + 2) +ℤ pos 2 in
      let v = a.width in
      let whole : Part = record { id = line_id key; from = pos 0; to = pos (max v (end_of_texts 4 (texts_width ts))) } in
      let itself : IsAmong k n m (line_id key) = record { section = ap Some e.1; low = omega (arith, e.0); high = omega arith; inner = λ q. omega arith } in
      owns-as same w (IsAmong k n m) (part (line_id key) (context_picture ts s x y)) (row_picture (ContextRow key ts) s (pos (a.left + 2)) y) y _ (area_strip a (FileRow (ContextRow key ts)) ∷ []) refl
      (λ z i. one-owner (owned (line_id key) (in_part a whole) clear) (area_strip a (FileRow (ContextRow key ts))) (λ i. owner-last [] whole (pos i -ℤ pos a.left)) y z i)
      (draws_part same is_clickable (no_rows w) (λ i. ⊥) (IsAmong k n m) (line_id key) (context_picture ts s x y) y (clear ∷ []) (in_part a whole)
      (owns-none same w (λ i. ⊥) (context_picture ts s x y) y clear (context_row ts s x y) (λ i. refl))
      (has-part _ a y 1 w 0 (max v (end_of_texts 4 (texts_width ts))) whole refl refl (context-lies ts s w a x y (omega (arith, ints)) fits o)) refl (λ j p. absurd p) itself (λ j p. absurd p))
  row-owns k n (DotsRow t) s w a y fits o e =
      owns-none same w (IsAmong k n n) (row_picture (DotsRow t) s (pos (a.left + 2)) y) y (area_strip a (FileRow (DotsRow t))) (dots_row t s (pos (a.left + 2)) y) (λ i. refl)
  row-owns k n BlankRow s w a y fits o e = owns-none same w (IsAmong k n n) (row_picture BlankRow s (pos (a.left + 2)) y) y (area_strip a (FileRow BlankRow)) (blank_row s (pos (a.left + 2)) y) (λ i. refl)

  -- ---- rows one below another

  after-more : (k : SectionKey) (n : ℕ) (d : DocRow) → IsRowOf k n d → n ≤ after_row n d
  after-more k n (HeaderRow key h) e = absurd e
  after-more k n (DotsRow t) e = omega arith
  after-more k n BlankRow e = omega arith
  after-more k n _ e = omega (arith, e.0)

  pub rows-own : (k : SectionKey) (n : ℕ) (ds : List DocRow) (s : Sight) (w : ℕ) (a : Area) (y : ℤ) → 10 ≤ a.width → IsSeen s w a → AreRowsOf k n ds
      → Owns same w (IsFrom k n) (rows_picture ds s (pos (a.left + 2)) y) y (map (λ (d : DocRow). area_strip a (FileRow d)) ds)
  unfolding rows_picture
  rows-own k n [] s w a y fits o e = draws_nothing same is_clickable (no_rows w) (IsFrom k n) y
  rows-own k n (d ∷ ds) s w a y fits o e =
      let x = pos (a.left + 2) in
      let m = after_row n d in
      let more = after-more k n d e.0 in
      draws_below same is_clickable (no_rows w) (IsAmong k n m) (IsFrom k m) (IsFrom k n) (row_picture d s x y) (rows_picture ds s x (y +ℤ pos 1)) y (area_strip a (FileRow d) ∷ []) (map (λ (d : DocRow). area_strip a (FileRow d)) ds)
      (row-owns k n d s w a y fits o e.0) (rows-own k m ds s w a (y +ℤ pos 1) fits o e.1)
      (λ i j p q. differ same law i j (λ r. let t : rank_of i ≡ rank_of j = ap rank_of r in absurd (omega (arith, t, p.high, q.low))))
      (λ i p. record { section = p.section; low = p.low; inner = p.inner })
      (λ i p. record { section = p.section; low = omega (arith, more, p.low); inner = p.inner })

-- ---- the columns of a section

least-out : (f : ℤ) (fs : List ℤ) (g : ℤ) → f ≤ℤ g → fold int_min (int_min f g) fs ≡ fold int_min f fs
least-out f fs g h = let same : int_min f g ≡ f = omega (arith, places, h) in ap (λ k. fold int_min k fs) same

-- a heading begins in its own column
pub heading-first : (v c n : ℕ) → c + 8 ≤ v → heading_from v c n ≡ pos c
heading-first v c n h = go (int_lt (title_end v c) (pos (c + 4 + n)))
  where
    go : (b : Bool) → int_min (pos c) (int_min (pos v -ℤ pos 3) (if b then title_end v c -ℤ pos 1 else pos c)) ≡ pos c
    go true = omega (arith, places, h)
    go false = omega (arith, places, h)

-- and a row not left of column 0, or of column 2 if it does not take columns 0 and 1
row-first : (v : ℕ) (d : DocRow) → 10 ≤ v → pos 0 ≤ℤ row_from v d
row-first v (HeaderRow key h) wide = let e = heading-first v 0 (text_width h.title) (omega (arith, wide)) in omega (arith, ints, e)
row-first v (SectionRow selected h) wide = let e = heading-first v 2 (text_width h.title) (omega (arith, wide)) in omega (arith, ints, e)
row-first v (LineRow key b ts) wide = omega (arith, ints)
row-first v (MarkRow selected b t) wide = omega (arith, ints)
row-first v (ContextRow key ts) wide = omega (arith, ints)
row-first v (DotsRow t) wide = omega (arith, ints)
row-first v BlankRow wide = omega (arith, ints)

narrow-first : (v : ℕ) (d : DocRow) → 10 ≤ v → is_whole d ≡ false → pos 2 ≤ℤ row_from v d
narrow-first v (HeaderRow key h) wide e = absurd (cc e)
narrow-first v (SectionRow selected h) wide e = let f = heading-first v 2 (text_width h.title) (omega (arith, wide)) in omega (arith, ints, f)
narrow-first v (LineRow key b ts) wide e = absurd (cc e)
narrow-first v (MarkRow selected b t) wide e = omega (arith, ints)
narrow-first v (ContextRow key ts) wide e = absurd (cc e)
narrow-first v (DotsRow t) wide e = omega (arith, ints)
narrow-first v BlankRow wide e = omega (arith, ints)

pub from-zero : (v : ℕ) (ds : List DocRow) → 10 ≤ v → fold int_min (pos 0) (map (row_from v) ds) ≡ pos 0
from-zero v [] wide = refl
from-zero v (d ∷ ds) wide = least-out (pos 0) (map (row_from v) ds) (row_from v d) (row-first v d wide) ∙ from-zero v ds wide

from-two : (v : ℕ) (ds : List DocRow) → 10 ≤ v → is_wide ds ≡ false → fold int_min (pos 2) (map (row_from v) ds) ≡ pos 2
from-two v [] wide e = refl
from-two v (d ∷ ds) wide e = go (is_whole d) refl e (λ q. from-two v ds wide q)
  where
    go : (b : Bool) → is_whole d ≡ b → (b || is_wide ds) ≡ false → (is_wide ds ≡ false → fold int_min (pos 2) (map (row_from v) ds) ≡ pos 2)
        → fold int_min (int_min (pos 2) (row_from v d)) (map (row_from v) ds) ≡ pos 2
    go true p q rest = absurd (cc q)
    go false p q rest = least-out (pos 2) (map (row_from v) ds) (row_from v d) (narrow-first v d wide p) ∙ rest q

section-first : (v : ℕ) (p : ShownSection) → 10 ≤ v → (section_part v p).from ≡ pos (left_of (is_wide p.rows))
section-first v p wide = go (is_wide p.rows) refl
  where
    go : (b : Bool) → is_wide p.rows ≡ b → fold int_min (if b then pos 0 else pos 2) (map (row_from v) p.rows) ≡ pos (left_of b)
    go true e = from-zero v p.rows wide
    go false e = from-two v p.rows wide e

-- ---- sections

-- strips whose other columns a part owns
owned-map : (a : Area) (p : Part) (ds : List DocRow) → map (owned p.id (in_part a p)) (map (λ (d : DocRow). area_strip a (FileRow d)) ds) ≡ map (λ (d : DocRow). owned_in a p (area_strip a (FileRow d))) ds
unfolding owner_in
owned-map a p [] = refl
owned-map a p (d ∷ ds) = ap (λ (ss : List (Strip ComponentId)). owned_in a p (area_strip a (FileRow d)) ∷ ss) (owned-map a p ds)

pub length-section : (a : Area) (p : ShownSection) → length (area_section a p) ≡ length p.rows
unfolding area_section
length-section a p = length-map p.rows (λ d. owned_in a (section_part a.width p) (area_strip a (FileRow d)))

module _ (same : ComponentId → ComponentId → Bool) (law : IsLawful same) where
  -- a section without rows owns nothing
  none-own : (k : SectionKey) (s : Sight) (w : ℕ) (x y : ℤ) → Owns same w (IsOf k) (part (section_id k) (rows_picture [] s x y)) y []
  unfolding part rows_picture nothing hit has_id line
  none-own k s w x y = record {
    paints = λ z row p q. absurd (none-seen w z p);
    owns = λ rep live z i p. rw (live (section_id k) refl, box-empty, holds-nothing z i) refl;
    ids = (refl, tt);
  }

  some-own : (k : SectionKey) (d : DocRow) (ds : List DocRow) (s : Sight) (w : ℕ) (a : Area) (y : ℤ) → 10 ≤ a.width → IsSeen s w a → AreRowsOf k 0 (d ∷ ds)
      → Owns same w (IsOf k) (part (section_id k) (rows_picture (d ∷ ds) s (pos (a.left + 2)) y)) y
      (map (owned (section_id k) (in_part a (section_part a.width (record { key = k; rows = d ∷ ds })))) (map (λ (d : DocRow). area_strip a (FileRow d)) (d ∷ ds)))
  some-own k d ds s w a y fits o e =
      let p : ShownSection = record { key = k; rows = d ∷ ds } in
      let x = pos (a.left + 2) in
      let strips = map (λ (d : DocRow). area_strip a (FileRow d)) (d ∷ ds) in
      let n : length strips ≡ length (d ∷ ds) = length-map (d ∷ ds) (λ (d : DocRow). area_strip a (FileRow d)) in
      let lies = rows-lie d ds s w a y fits o (rows-inner k 0 (d ∷ ds) e) in
      let box = has-part _ a y (length (d ∷ ds)) w (left_of (is_wide (d ∷ ds))) (farthest a.width (d ∷ ds)) (section_part a.width p) (section-first a.width p fits) refl lies in
      draws_part same is_clickable (no_rows w) (IsFrom k 0) (IsOf k) (section_id k) (rows_picture (d ∷ ds) s x y) y strips (in_part a (section_part a.width p))
      (rows-own same law k 0 (d ∷ ds) s w a y fits o e) (record { top = box.top; rows = box.rows ∙ sym n; columns = box.columns }) refl
      (λ j p. differ same law (section_id k) j (λ q. let t : is_item j ≡ true = ap is_item (sym q) in let r : rank_of j ≡ 1 = ap rank_of (sym q) in let m = p.inner t in absurd (omega (arith, r, m))))
      refl (λ j p. p.section)

  -- the boxes of a section and of its parts own what the section's strips say
  pub section-owns : (p : ShownSection) (s : Sight) (w : ℕ) (a : Area) (y : ℤ) → 10 ≤ a.width → IsSeen s w a → AreRowsOf p.key 0 p.rows
      → Owns same w (IsOf p.key) (part (section_id p.key) (rows_picture p.rows s (pos (a.left + 2)) y)) y (area_section a p)
  unfolding area_section
  section-owns p s w a y fits o e = subst (λ ss. Owns same w (IsOf p.key) (part (section_id p.key) (rows_picture p.rows s (pos (a.left + 2)) y)) y ss) (owned-map a (section_part a.width p) p.rows) (go p.rows e)
    where
      go : (ds : List DocRow) → AreRowsOf p.key 0 ds → Owns same w (IsOf p.key) (part (section_id p.key) (rows_picture ds s (pos (a.left + 2)) y)) y
          (map (owned (section_id p.key) (in_part a (section_part a.width (record { key = p.key; rows = ds })))) (map (λ (d : DocRow). area_strip a (FileRow d)) ds))
      go [] e = none-own p.key s w (pos (a.left + 2)) y
      go (d ∷ ds) e = some-own p.key d ds s w a y fits o e

  -- the boxes of sections, one below another, own what their strips say
  pub sections-own : (f : FileKey) (n : ℕ) (ps : List ShownSection) (s : Sight) (w : ℕ) (a : Area) (y : ℤ) → 10 ≤ a.width → IsSeen s w a → AreSectionsOf f n ps
      → Owns same w (IsSectionFrom f n) (sections_picture ps s (pos (a.left + 2)) y) y (area_sections a ps)
  unfolding sections_picture area_sections
  sections-own f n [] s w a y fits o e = draws_nothing same is_clickable (no_rows w) (IsSectionFrom f n) y
  sections-own f n (p ∷ ps) s w a y fits o e =
      let l = length-section a p in
      let m = suc p.key.section_idx in
      let x = pos (a.left + 2) in
      let below = sections-own f m ps s w a (y +ℤ pos (length p.rows)) fits o e.3 in
      draws_below same is_clickable (no_rows w) (IsOf p.key) (IsSectionFrom f m) (IsSectionFrom f n) (part (section_id p.key) (rows_picture p.rows s x y)) (sections_picture ps s x (y +ℤ pos (length p.rows))) y (area_section a p) (area_sections a ps)
      (section-owns p s w a y fits o e.2)
      (subst (λ k. Owns same w (IsSectionFrom f m) (sections_picture ps s x (y +ℤ pos (length p.rows))) (y +ℤ pos k) (area_sections a ps)) (sym l) below)
      (λ i j b c. differ same law i j (λ r. let t = index-of i p.key c.key b (ap section_of r ∙ c.section) in absurd (omega (arith, t, c.low))))
      (λ i b. record { key = p.key; section = b; file = e.1; low = e.0 })
      (λ i b. record { key = b.key; section = b.section; file = b.file; low = omega (arith, b.low, e.0) })
