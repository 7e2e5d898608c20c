-- Who owns the columns of the rows of a section, by the boxes that are drawn: whom the strips name.
use Rattle.std.proofs.Common.{◌≡◌, ℕ, suc, ◌+◌, ◌-◌, ◌<◌, ◌≤◌, Bool, true, false, cond, List, [], ◌∷◌, length, map, refl, sym, ap, ◌∙◌, arith, subst, append-nil}
use Rattle.std.specs.Prelude.{ℤ, pos, ◌+ℤ◌, ◌≤ℤ◌, ◌<ℤ◌, ◌&&◌, nat_le, nat_lt, Option, Some, None, if◌then◌else◌}
use Rattle.std.specs.Ordering.{int_eq}
use Rattle.std.proofs.lemmas.Int.{ints}
use Rattle.std.proofs.lemmas.List.{length-map}
use Rattle.scm_cells.specs.Clusters.{text_width}
use Rattle.scm_cells.specs.declared.rect.Rect.{Rect}
use Rattle.scm_render.specs.Picture.{nothing, followed_by, covering, part, box_rect}
use Rattle.scm_render.specs.Canvas.{Sight}
use Rattle.scm_render.specs.Drawing.{has_row, span_picture, line_picture, text_picture, blank_picture}
use Rattle.scm_render.specs.Hits.{IsLawful, has_id, hit, latest}
use Rattle.scm_render.specs.Lines.{line}
use Rattle.scm_render.proofs.HitLemmas.{each_more}
use Rattle.scm_types.specs.declared.keys.FileKey.{FileKey}
use Rattle.scm_types.specs.declared.keys.SectionKey.{SectionKey}
use Rattle.scm_types.specs.declared.keys.LineKey.{LineKey}
use Rattle.scm_types.specs.declared.keys.SelectionKey.{SelectionKey}
use Rattle.scm_types.specs.declared.keys.SelectionKey.TheVariants as selection
use Rattle.scm_widgets.specs.declared.ids.ComponentId.{ComponentId}
use Rattle.scm_widgets.specs.declared.ids.ComponentId.TheVariants as ids
use Rattle.scm_widgets.specs.Clicks.{is_clickable}
use Rattle.scm_document.specs.OpenSights.{IsOpen}
use Rattle.scm_widgets.specs.Layers.{Strip, clear, over, owned, strip_at}
use Rattle.scm_types.specs.Keys.{section_of_line, file_of_section}
use Rattle.scm_document.specs.Owners.{IsRowOf, after_row, AreRowsOf, AreSectionsOf}
use Rattle.scm_widgets.specs.Texts.{box_text}
use Rattle.scm_widgets.specs.Boxes.{IdBox}
use Rattle.scm_document.specs.Rows.{section_id, line_id, Heading, DocRow, HeaderRow, SectionRow, LineRow, MarkRow, ContextRow, DotsRow, BlankRow, ShownSection}
use Rattle.scm_widgets.specs.Pictures.{IdPicture, box_picture, box_part, highlight}
use Rattle.scm_document.specs.Pictures.{heading_width, title_picture, heading_picture, changed_picture, context_picture, row_picture, rows_picture, sections_picture}
use Rattle.scm_document.specs.Strips.{box_strip, heading_strip, row_strip, is_wide, is_of_section, everywhere, section_strips, sections_strips}
use Rattle.scm_widgets.proofs.DrawsStrips.{DrawsStrips, HasBox, draws_nothing, draws_both, draws_below, draws_part}
use Rattle.scm_widgets.proofs.ButtonLemmas.{IsId, holds-text, holds-nothing}
use Rattle.scm_overlay.proofs.MenuLemmas.{differ, line-beside}
use Rattle.scm_document.proofs.StripLemmas.{fold-place, beside_fold}
use Rattle.scm_document.proofs.BoxLemmas.{box-none, rows-span, has_box, changed-spans, context-spans}
use Rattle.scm_widgets.proofs.BoxLemmas.{box-width}
use Rattle.scm_document.proofs.OwnerLemmas.{rows-inner}

-- a screen of w columns of which no row is seen: what is drawn there are boxes alone
abbrev pub no_rows : ℕ → Rect
no_rows w = record { x = pos 0; y = pos 0; width = w; height = 0 }

-- the boxes of a picture, whose ids are all of a kind, own what the strips say, on a screen of w columns, and nothing else
abbrev pub Owns : (ComponentId → ComponentId → Bool) → ℕ → (ComponentId → Type 0) → IdPicture → ℤ → List (Strip ComponentId) → Type 0
Owns same w P m y ss = DrawsStrips same is_clickable (no_rows w) P m y ss

pub none-seen : (w : ℕ) (z : ℤ) → has_row (no_rows w) z ≡ true → ⊥
none-seen w z h =
    let a : pos 0 ≤ℤ z = grind (arith, ints, h) in
    let b : z <ℤ (pos 0 +ℤ pos 0) = grind (arith, ints, h) in
    omega (arith, ints, a, b)

-- ---- strips with the same owners, pictures with the same boxes

one-owner : (a b : Strip ComponentId) → ((x : ℕ) → a.owner x ≡ b.owner x) → (y z : ℤ) (x : ℕ) → (line clear (a ∷ []) y z).owner x ≡ (line clear (b ∷ []) y z).owner x
unfolding line
one-owner a b e y z x = elim (int_eq z y) as (λ t. (cond t a clear).owner x ≡ (cond t b clear).owner x) [ true ↦ e x | false ↦ refl ]

pub no-owner : (a : Strip ComponentId) → ((x : ℕ) → a.owner x ≡ None) → (y z : ℤ) (x : ℕ) → (line clear (a ∷ []) y z).owner x ≡ None
unfolding line
no-owner a e y z x = elim (int_eq z y) as (λ t. (cond t a clear).owner x ≡ None) [ true ↦ e x | false ↦ refl ]

module _ (same : ComponentId → ComponentId → Bool) where
  pub owns-as : (w : ℕ) (P : ComponentId → Type 0) (m n : IdPicture) (y : ℤ) (ss ts : List (Strip ComponentId)) → m.boxes ≡ n.boxes
      → ((z : ℤ) (x : ℕ) → (line clear ss y z).owner x ≡ (line clear ts y z).owner x) → Owns same w P m y ss → Owns same w P n y ts
  owns-as w P m n y ss ts e f h = record {
    paints = λ z row p q. absurd (none-seen w z p);
    owns = λ rep live z x p. rw (sym e) (h.owns rep live z x p ∙ f z x);
    ids = rw (sym e) h.ids;
  }

  -- ids of a wider kind
  pub owns-more : (w : ℕ) (P Q : ComponentId → Type 0) (m : IdPicture) (y : ℤ) (ss : List (Strip ComponentId)) → ((i : ComponentId) → P i → Q i) → Owns same w P m y ss → Owns same w Q m y ss
  owns-more w P Q m y ss f h = record {
    paints = λ z row p q. absurd (none-seen w z p);
    owns = λ rep live z x p. h.owns rep (λ i k. live i (f i k)) z x p;
    ids = each_more P Q m.boxes f h.ids;
  }

  pub owns-none : (w : ℕ) (P : ComponentId → Type 0) (m : IdPicture) (y : ℤ) (a : Strip ComponentId) → m.boxes ≡ [] → ((x : ℕ) → a.owner x ≡ None) → Owns same w P m y (a ∷ [])
  unfolding hit
  owns-none w P m y a e f = record {
    paints = λ z row p q. absurd (none-seen w z p);
    owns = λ rep live z x p. rw e (sym (no-owner a f y z x));
    ids = rw e tt;
  }

  -- a box owns its three columns
  cell : (b : IdBox) (c low high : ℕ) (y z : ℤ) (x : ℕ) → cond (int_eq z y && (nat_le c x && nat_lt x (c + 3))) (Some b.id) None ≡ (line clear (box_strip c b low high ∷ []) y z).owner x
  unfolding line
  cell b c low high y z x = elim (int_eq z y) as (λ t. cond (t && (nat_le c x && nat_lt x (c + 3))) (Some b.id) None ≡ (cond t (box_strip c b low high) clear).owner x) [ true ↦ refl | false ↦ refl ]

  box_owns : (b : IdBox) (s : Sight) (w c low high : ℕ) (y : ℤ) → is_clickable b.id ≡ true → Owns same w (IsId b.id) (box_part b s (pos c) y) y (box_strip c b low high ∷ [])
  unfolding part box_picture span_picture box_rect hit has_id
  box_owns b s w c low high y click = record {
    paints = λ z row p q. absurd (none-seen w z p);
    owns = λ rep live z x p.
        rw (click, live b.id refl, holds-text (pos c) y z (text_width (box_text b)) x, box-width b) (cell b c low high y z x);
    ids = (refl, tt);
  }

-- ---- headings

pub text-none : (s : Sight) (x y : ℤ) (ts : List (List ℕ)) → (text_picture {K = ComponentId} s x y ts).boxes ≡ []
unfolding text_picture followed_by line_picture span_picture nothing
text-none s x y ts = go _ _ _ _
  where
    go : (b : Bool) (c z : ℤ) (t : List ℕ) → (if b then span_picture {K = ComponentId} s c z t else nothing).boxes ≡ []
    go true c z t = refl
    go false c z t = refl

title-boxes : (b : IdBox) (t : List ℕ) (n : ℕ) (s : Sight) (x y : ℤ) → (title_picture b t n s x y).boxes ≡ (box_part b s x y).boxes
unfolding title_picture followed_by blank_picture part box_picture span_picture
title-boxes b t n s x y = rw (text-none s (x +ℤ pos 4) y (t ∷ [])) refl

pub heading-boxes : (h : Heading) (s : Sight) (w c : ℕ) (y : ℤ) → 3 ≤ w → IsOpen s w
    → (heading_picture h s (pos c) y).boxes ≡ (followed_by (box_part h.fold s (pos (w - 3)) y) (box_part h.toggle (beside_fold s c y) (pos c) y)).boxes
unfolding heading_picture followed_by
heading-boxes h s w c y some o =
    rw (title-boxes h.toggle h.title (heading_width s (pos c)) (beside_fold s c y) (pos c) y)
    (ap (λ k. (followed_by (box_part h.fold s k y) (box_part h.toggle (beside_fold s c y) (pos c) y)).boxes) (fold-place s w some o))

-- ---- whose the ids are

abbrev key_section : SelectionKey → Option SectionKey
key_section (selection.Section k) = Some k
key_section (selection.Line k) = Some (section_of_line k)
key_section _ = None

-- lines count from 1, and the section itself is 0
abbrev key_rank : SelectionKey → ℕ
key_rank (selection.Line k) = suc k.line_idx
key_rank _ = 0

abbrev pub section_of : ComponentId → Option SectionKey
section_of (ids.SelectableItem k) = key_section k
section_of (ids.ToggleBox k) = key_section k
section_of (ids.ExpandBox k) = key_section k
section_of _ = None

abbrev pub rank_of : ComponentId → ℕ
rank_of (ids.SelectableItem k) = suc (key_rank k)
rank_of (ids.ToggleBox k) = suc (key_rank k)
rank_of (ids.ExpandBox k) = suc (key_rank k)
rank_of _ = 0

-- whether the id is that of a file, a section or a line, and not that of a box of it
abbrev pub is_item : ComponentId → Bool
is_item (ids.SelectableItem k) = true
is_item _ = false

-- a part of a section, of these ranks; and not the section itself
pub record IsAmong (k : SectionKey) (n m : ℕ) (i : ComponentId) : Type 0 where
  pub section : section_of i ≡ Some k
  pub low : n < rank_of i
  pub high : rank_of i ≤ m
  pub inner : is_item i ≡ true → 1 < rank_of i

-- a part of a section, of this rank or a later one
pub record IsFrom (k : SectionKey) (n : ℕ) (i : ComponentId) : Type 0 where
  pub section : section_of i ≡ Some k
  pub low : n < rank_of i
  pub inner : is_item i ≡ true → 1 < rank_of i

-- ---- rows

pub line_parts : (key : LineKey) (b : IdBox) (ts : List (List ℕ)) (s : Sight) (y : ℤ) → (part (line_id key) (changed_picture b ts s (pos 4) y)).boxes ≡ (row_picture (LineRow key b ts) s (pos 2) y).boxes
unfolding row_picture followed_by covering
line_parts key b ts s y = refl

pub context_parts : (key : LineKey) (ts : List (List ℕ)) (s : Sight) (y : ℤ) → (part (line_id key) (context_picture ts s (pos 4) y)).boxes ≡ (row_picture (ContextRow key ts) s (pos 2) y).boxes
unfolding row_picture followed_by covering
context_parts key ts s y = refl

highlight-boxes : (b : Bool) (s : Sight) (y : ℤ) → (highlight b s y).boxes ≡ []
unfolding covering nothing
highlight-boxes true s y = refl
highlight-boxes false s y = refl

module _ (same : ComponentId → ComponentId → Bool) (law : IsLawful same) where
  pub heading_owns : (h : Heading) (s : Sight) (w c : ℕ) (y : ℤ) (P : ComponentId → Type 0) → 3 ≤ w → IsOpen s w → is_clickable h.toggle.id ≡ true → is_clickable h.fold.id ≡ true
      → (h.fold.id ≡ h.toggle.id → ⊥) → P h.toggle.id → P h.fold.id → Owns same w P (heading_picture h s (pos c) y) y (heading_strip w c h ∷ [])
  heading_owns h s w c y P some o ct cf apart p q =
      let fold = box_part h.fold s (pos (w - 3)) y in
      let toggle = box_part h.toggle (beside_fold s c y) (pos c) y in
      let both : Owns same w P (followed_by fold toggle) y (over (box_strip c h.toggle c (w - 3)) (box_strip (w - 3) h.fold 0 w) ∷ []) =
      draws_both same is_clickable (no_rows w) (IsId h.fold.id) (IsId h.toggle.id) P fold toggle y y (box_strip (w - 3) h.fold 0 w ∷ []) (box_strip c h.toggle c (w - 3) ∷ []) _
      (box_owns same h.fold s w (w - 3) 0 w y cf) (box_owns same h.toggle (beside_fold s c y) w c c (w - 3) y ct)
      (λ i j e f. differ same law i j (λ g. apart (sym e ∙ g ∙ f))) (λ i e. subst P (sym e) q) (λ i e. subst P (sym e) p)
      (λ z. line-beside (box_strip c h.toggle c (w - 3)) (box_strip (w - 3) h.fold 0 w) [] y z) in
      owns-as same w P (followed_by fold toggle) (heading_picture h s (pos c) y) y _ (heading_strip w c h ∷ []) (sym (heading-boxes h s w c y some o))
      (λ z x. one-owner _ (heading_strip w c h) (λ x. refl) y z x) both

  section_row : (h : Heading) (selected : Bool) (s : Sight) (y : ℤ) → (heading_picture h s (pos 2) y).boxes ≡ (row_picture (SectionRow selected h) s (pos 2) y).boxes
  unfolding row_picture followed_by
  section_row h selected s y = rw (highlight-boxes selected s y) (sym (append-nil (heading_picture h s (pos 2) y).boxes))

  mark_row : (selected : Bool) (b : IdBox) (t : List ℕ) (s : Sight) (y : ℤ) → (box_part b s (pos 2) y).boxes ≡ (row_picture (MarkRow selected b t) s (pos 2) y).boxes
  unfolding row_picture followed_by covering part box_picture span_picture
  mark_row selected b t s y = rw (text-none s (pos 2 +ℤ pos 4) y (t ∷ []), highlight-boxes selected s y) refl

  pub line_row : (b : IdBox) (ts : List (List ℕ)) (s : Sight) (y : ℤ) → (box_part b s (pos 4) y).boxes ≡ (changed_picture b ts s (pos 4) y).boxes
  unfolding changed_picture followed_by covering part box_picture span_picture
  line_row b ts s y = rw (text-none s (pos 4 +ℤ pos 4) y ts) refl

  pub context_row : (ts : List (List ℕ)) (s : Sight) (y : ℤ) → (context_picture ts s (pos 4) y).boxes ≡ []
  unfolding context_picture followed_by covering
  context_row ts s y = text-none s (pos 4) y ts

  dots_row : (t : List ℕ) (s : Sight) (y : ℤ) → (row_picture (DotsRow t) s (pos 2) y).boxes ≡ []
  unfolding row_picture followed_by covering span_picture
  dots_row t s y = refl

  blank_row : (s : Sight) (y : ℤ) → (row_picture BlankRow s (pos 2) y).boxes ≡ []
  unfolding row_picture blank_picture
  blank_row s y = refl

  pub line_box : (key : LineKey) (b : IdBox) (ts : List (List ℕ)) (s : Sight) (w : ℕ) (y : ℤ) → 10 ≤ w → IsOpen s w → HasBox (box_rect (changed_picture b ts s (pos 4) y)) y 1 w everywhere
  line_box key b ts s w y fits o = has_box _ y 1 w true (changed-spans b ts s w y fits o)

  pub context_box : (key : LineKey) (ts : List (List ℕ)) (s : Sight) (w : ℕ) (y : ℤ) → 10 ≤ w → IsOpen s w → HasBox (box_rect (context_picture ts s (pos 4) y)) y 1 w everywhere
  context_box key ts s w y fits o = has_box _ y 1 w true (context-spans ts s w y fits o)

  -- each row's boxes own what its strip says
  pub row_owns : (k : SectionKey) (n : ℕ) (d : DocRow) (s : Sight) (w : ℕ) (y : ℤ) → 10 ≤ w → IsOpen s w → IsRowOf k n d
      → Owns same w (IsAmong k n (after_row n d)) (row_picture d s (pos 2) y) y (row_strip w d ∷ [])
  unfolding row_strip
  row_owns k n (HeaderRow key h) s w y fits o e = absurd e
  row_owns k n (SectionRow selected h) s w y fits o e =
      let toggle : IsAmong k n 1 (ids.ToggleBox (selection.Section k)) = record { section = refl; low = omega (arith, e.0); high = omega arith; inner = λ q. absurd (cc q) } in
      let fold : IsAmong k n 1 (ids.ExpandBox (selection.Section k)) = record { section = refl; low = omega (arith, e.0); high = omega arith; inner = λ q. absurd (cc q) } in
      owns-as same w (IsAmong k n 1) (heading_picture h s (pos 2) y) (row_picture (SectionRow selected h) s (pos 2) y) y (heading_strip w 2 h ∷ []) (heading_strip w 2 h ∷ []) (section_row h selected s y) (λ z x. refl)
      (heading_owns h s w 2 y (IsAmong k n 1) (omega (arith, fits)) o (ap is_clickable e.1) (ap is_clickable e.2) (λ q. cc (e.1, e.2, q)) (subst (IsAmong k n 1) (sym e.1) toggle) (subst (IsAmong k n 1) (sym e.2) fold))
  row_owns k n (LineRow key b ts) s w y fits o e =
      let m = suc (suc key.line_idx) in
      let itself : IsAmong k n m (line_id key) = record { section = ap Some e.1; low = omega (arith, e.0); high = omega arith; inner = λ q. omega arith } in
      let box : IsAmong k n m (ids.ToggleBox (selection.Line key)) = record { section = ap Some e.1; low = omega (arith, e.0); high = omega arith; inner = λ q. absurd (cc q) } in
      owns-as same w (IsAmong k n m) (part (line_id key) (changed_picture b ts s (pos 4) y)) (row_picture (LineRow key b ts) s (pos 2) y) y _ (row_strip w (LineRow key b ts) ∷ []) (line_parts key b ts s y)
      (λ z x. one-owner (owned (line_id key) everywhere (box_strip 4 b 0 w)) (row_strip w (LineRow key b ts)) (λ x. refl) y z x)
      (draws_part same is_clickable (no_rows w) (IsId b.id) (IsAmong k n m) (line_id key) (changed_picture b ts s (pos 4) y) y (box_strip 4 b 0 w ∷ []) everywhere
      (owns-as same w (IsId b.id) (box_part b s (pos 4) y) (changed_picture b ts s (pos 4) y) y _ _ (line_row b ts s y) (λ z x. refl) (box_owns same b s w 4 0 w y (ap is_clickable e.2)))
      (line_box key b ts s w y fits o) refl (λ j p. differ same law (line_id key) j (λ q. cc (q, p, e.2))) itself (λ j p. subst (IsAmong k n m) (sym (p ∙ e.2)) box))
  row_owns k n (MarkRow selected b t) s w y fits o e =
      let box : IsAmong k n 1 (ids.ToggleBox (selection.Section k)) = record { section = refl; low = omega (arith, e.0); high = omega arith; inner = λ q. absurd (cc q) } in
      owns-as same w (IsAmong k n 1) (box_part b s (pos 2) y) (row_picture (MarkRow selected b t) s (pos 2) y) y _ (row_strip w (MarkRow selected b t) ∷ []) (mark_row selected b t s y)
      (λ z x. one-owner (box_strip 2 b 0 w) (row_strip w (MarkRow selected b t)) (λ x. refl) y z x)
      (owns-more same w (IsId b.id) (IsAmong k n 1) _ y _ (λ i p. subst (IsAmong k n 1) (sym (p ∙ e.1)) box) (box_owns same b s w 2 0 w y (ap is_clickable e.1)))
  row_owns k n (ContextRow key ts) s w y fits o e =
      let m = suc (suc key.line_idx) in
      let itself : IsAmong k n m (line_id key) = record { section = ap Some e.1; low = omega (arith, e.0); high = omega arith; inner = λ q. omega arith } in
      owns-as same w (IsAmong k n m) (part (line_id key) (context_picture ts s (pos 4) y)) (row_picture (ContextRow key ts) s (pos 2) y) y _ (row_strip w (ContextRow key ts) ∷ []) (context_parts key ts s y)
      (λ z x. one-owner (owned (line_id key) everywhere clear) (row_strip w (ContextRow key ts)) (λ x. refl) y z x)
      (draws_part same is_clickable (no_rows w) (λ i. ⊥) (IsAmong k n m) (line_id key) (context_picture ts s (pos 4) y) y (clear ∷ []) everywhere
      (owns-none same w (λ i. ⊥) (context_picture ts s (pos 4) y) y clear (context_row ts s y) (λ x. refl))
      (context_box key ts s w y fits o) refl (λ j p. absurd p) itself (λ j p. absurd p))
  row_owns k n (DotsRow t) s w y fits o e = owns-none same w (IsAmong k n n) (row_picture (DotsRow t) s (pos 2) y) y (row_strip w (DotsRow t)) (dots_row t s y) (λ x. refl)
  row_owns k n BlankRow s w y fits o e = owns-none same w (IsAmong k n n) (row_picture BlankRow s (pos 2) y) y (row_strip w BlankRow) (blank_row s y) (λ x. refl)

  -- ---- rows one below another

  after-more : (k : SectionKey) (n : ℕ) (d : DocRow) → IsRowOf k n d → n ≤ after_row n d
  after-more k n (HeaderRow key h) e = absurd e
  after-more k n (DotsRow t) e = omega arith
  after-more k n BlankRow e = omega arith
  after-more k n _ e = omega (arith, e.0)

  pub rows_own : (k : SectionKey) (n : ℕ) (ds : List DocRow) (s : Sight) (w : ℕ) (y : ℤ) → 10 ≤ w → IsOpen s w → AreRowsOf k n ds
      → Owns same w (IsFrom k n) (rows_picture ds s (pos 2) y) y (map (row_strip w) ds)
  unfolding rows_picture
  rows_own k n [] s w y fits o e = draws_nothing same is_clickable (no_rows w) (IsFrom k n) y
  rows_own k n (d ∷ ds) s w y fits o e =
      let m = after_row n d in
      let more = after-more k n d e.0 in
      draws_below same is_clickable (no_rows w) (IsAmong k n m) (IsFrom k m) (IsFrom k n) (row_picture d s (pos 2) y) (rows_picture ds s (pos 2) (y +ℤ pos 1)) y (row_strip w d ∷ []) (map (row_strip w) ds)
      (row_owns k n d s w y fits o e.0) (rows_own k m ds s w (y +ℤ pos 1) fits o e.1)
      (λ i j p q. differ same law i j (λ r. let t : rank_of i ≡ rank_of j = ap rank_of r in absurd (omega (arith, t, p.high, q.low))))
      (λ i p. record { section = p.section; low = p.low; inner = p.inner })
      (λ i p. record { section = p.section; low = omega (arith, more, p.low); inner = p.inner })

-- a section or a part of it
abbrev pub IsOf : SectionKey → ComponentId → Type 0
IsOf k i = section_of i ≡ Some k

module _ (same : ComponentId → ComponentId → Bool) (law : IsLawful same) where
  -- a section without rows owns nothing
  none_own : (k : SectionKey) (s : Sight) (w : ℕ) (y : ℤ) → Owns same w (IsOf k) (part (section_id k) (rows_picture [] s (pos 2) y)) y []
  unfolding part rows_picture nothing hit has_id line
  none_own k s w y = record {
    paints = λ z row p q. absurd (none-seen w z p);
    owns = λ rep live z x p. rw (live (section_id k) refl, box-none, holds-nothing z x) refl;
    ids = (refl, tt);
  }

  some_own : (k : SectionKey) (d : DocRow) (ds : List DocRow) (s : Sight) (w : ℕ) (y : ℤ) → 10 ≤ w → IsOpen s w → AreRowsOf k 0 (d ∷ ds)
      → Owns same w (IsOf k) (part (section_id k) (rows_picture (d ∷ ds) s (pos 2) y)) y (map (owned (section_id k) (is_of_section (d ∷ ds))) (map (row_strip w) (d ∷ ds)))
  some_own k d ds s w y fits o e =
      let n : length (map (row_strip w) ds) ≡ length ds = length-map ds (row_strip w) in
      let box = has_box _ y (suc (length ds)) w (is_wide (d ∷ ds)) (rows-span d ds s w y fits o (rows-inner k 0 (d ∷ ds) e)) in
      draws_part same is_clickable (no_rows w) (IsFrom k 0) (IsOf k) (section_id k) (rows_picture (d ∷ ds) s (pos 2) y) y (map (row_strip w) (d ∷ ds)) (is_of_section (d ∷ ds))
      (rows_own same law k 0 (d ∷ ds) s w y fits o e) (box-of n box) refl
      (λ j p. differ same law (section_id k) j (λ q. let t : is_item j ≡ true = ap is_item (sym q) in let r : rank_of j ≡ 1 = ap rank_of (sym q) in let m = p.inner t in absurd (omega (arith, r, m))))
      refl (λ j p. p.section)
    where
      box-of : length (map (row_strip w) ds) ≡ length ds → HasBox (box_rect (rows_picture (d ∷ ds) s (pos 2) y)) y (suc (length ds)) w (is_of_section (d ∷ ds))
          → HasBox (box_rect (rows_picture (d ∷ ds) s (pos 2) y)) y (suc (length (map (row_strip w) ds))) w (is_of_section (d ∷ ds))
      box-of n b = record { top = b.top; rows = b.rows ∙ ap suc (sym n); columns = b.columns }

  -- the boxes of a section and of its parts own what the section's strips say
  pub section_owns : (k : SectionKey) (ds : List DocRow) (s : Sight) (w : ℕ) (y : ℤ) → 10 ≤ w → IsOpen s w → AreRowsOf k 0 ds
      → Owns same w (IsOf k) (part (section_id k) (rows_picture ds s (pos 2) y)) y (section_strips w (record { key = k; rows = ds }))
  unfolding section_strips
  section_owns k [] s w y fits o e = none_own k s w y
  section_owns k (d ∷ ds) s w y fits o e = some_own k d ds s w y fits o e

-- a section of the file, or a part of a section, from section `n` on
pub record IsSectionFrom (f : FileKey) (n : ℕ) (i : ComponentId) : Type 0 where
  pub key : SectionKey
  pub section : section_of i ≡ Some key
  pub file : file_of_section key ≡ f
  pub low : n ≤ key.section_idx

length-strips : (w : ℕ) (p : ShownSection) → length (section_strips w p) ≡ length p.rows
unfolding section_strips
length-strips w p = length-map (map (row_strip w) p.rows) (owned (section_id p.key) (is_of_section p.rows)) ∙ length-map p.rows (row_strip w)

pub index-of : (i : ComponentId) (k m : SectionKey) → section_of i ≡ Some k → section_of i ≡ Some m → k.section_idx ≡ m.section_idx
index-of i k m p q = let e : k ≡ m = cc (p, q) in ap (λ (t : SectionKey). t.section_idx) e

module _ (same : ComponentId → ComponentId → Bool) (law : IsLawful same) where
  -- the boxes of sections, one below another, own what their strips say
  pub sections_own : (f : FileKey) (n : ℕ) (ps : List ShownSection) (s : Sight) (w : ℕ) (y : ℤ) → 10 ≤ w → IsOpen s w → AreSectionsOf f n ps
      → Owns same w (IsSectionFrom f n) (sections_picture ps s (pos 2) y) y (sections_strips w ps)
  unfolding sections_picture sections_strips
  sections_own f n [] s w y fits o e = draws_nothing same is_clickable (no_rows w) (IsSectionFrom f n) y
  sections_own f n (p ∷ ps) s w y fits o e =
      let l = length-strips w p in
      let m = suc p.key.section_idx in
      draws_below same is_clickable (no_rows w) (IsOf p.key) (IsSectionFrom f m) (IsSectionFrom f n) (part (section_id p.key) (rows_picture p.rows s (pos 2) y)) _ y (section_strips w p) (sections_strips w ps)
      (section_owns same law p.key p.rows s w y fits o e.2)
      (rw l (sections_own f m ps s w (y +ℤ pos (length p.rows)) fits o e.3))
      (λ i j a b. differ same law i j (λ r. let t = index-of i p.key b.key a (ap section_of r ∙ b.section) in absurd (omega (arith, t, b.low))))
      (λ i a. record { key = p.key; section = a; file = e.1; low = e.0 })
      (λ i a. record { key = a.key; section = a.section; file = a.file; low = omega (arith, a.low, e.0) })

  pub sections-owned : (f : FileKey) (ps : List ShownSection) (s : Sight) (w y x : ℕ) → 10 ≤ w → IsOpen s w → AreSectionsOf f 0 ps → x < w
      → (z : ℕ) → latest same is_clickable (sections_picture ps s (pos 2) (pos y)).boxes (pos z) (pos x) ≡ (strip_at z (record { first = y; strips = sections_strips w ps })).owner x
  sections-owned f ps s w y x fits o e within z = (sections_own f 0 ps s w (pos y) fits o e).owns (λ i. false) (λ i p. refl) (pos z) x within
