-- What blanks and frames leave on the rows of a screen.
use Rattle.std.proofs.Common.{◌≡◌, ℕ, zero, suc, ◌-◌, ◌≤◌, Bool, true, false, List, [], ◌∷◌, ◌++◌, length, replicate, refl, sym, ap, ◌∙◌, arith, append-nil, append_assoc, map, inl, inr, subst}
use Rattle.std.specs.Prelude.{ℤ, pos, ◌+ℤ◌, ◌-ℤ◌, ◌≤ℤ◌, ◌<ℤ◌, int_le, int_lt, encode_utf8, take}
use Rattle.std.specs.Ordering.{int_eq}
use Rattle.std.specs.List.{concat}
use Rattle.std.proofs.lemmas.Int.{ints}
use Rattle.std.proofs.lemmas.Str.{encode_ascii}
use Rattle.std.proofs.lemmas.Bool.Decides.{Decides-int_eq}
use Rattle.scm_cells.specs.Rect.{end_x_of, end_y_of, intersect_of, rect_between, is_empty}
use Rattle.scm_cells.specs.declared.rect.Rect.{Rect}
use Rattle.scm_cells.proofs.RectLemmas.{places}
use Rattle.scm_render.specs.declared.filling.Filling.{Filling}
use Rattle.scm_render.specs.declared.filling.Filling.TheVariants.{Blank, Border}
use Rattle.scm_render.specs.Picture.{Put}
use Rattle.scm_render.specs.Canvas.{Row, Sight}
use Rattle.scm_render.proofs.RowsWithin.{put_within}
use Rattle.scm_render.specs.Drawing.{reach, has_row, text_puts, row_rect, blank_picture, frame_picture, rows_puts, row_text, symbol_at, border_symbol, edge_symbol, fill_puts, frame_puts, title_room, body_room, lines_puts}
use Rattle.scm_render.proofs.PaintLemmas.{paint-none, int_eq-false}
use Rattle.scm_render.proofs.DrawLemmas.{off_cases, row_text-more, rows_puts-more, rows_puts-none}
use Rattle.scm_render.proofs.RowLemmas.{OneRow, PutsRows, IsReached, not_seen, one_text, one_row_paints, paints_none, paints_more}

-- the row with a text from the first column of a rectangle, clipped to it
abbrev pub put_over : Rect → Rect → List ℕ → Row → Row
put_over v r t row = put_within v r r.x t row

-- ---- texts on rows that a rectangle has

in_rect : (r : Rect) (y : ℤ) → r.y ≤ℤ y → y <ℤ end_y_of r → has_row r y ≡ true
in_rect r y h k =
    let a : int_le r.y y ≡ true = grind (arith, ints) in
    let b : int_lt y (end_y_of r) ≡ true = grind (arith, ints) in
    rw (a, b) refl

one_over : (v seen r : Rect) (y : ℤ) (t : List ℕ) → r.y ≤ℤ y → y <ℤ end_y_of r → OneRow v seen y (text_puts r r.x y t) (put_over v r t)
one_over v seen r y t h k = one_text v seen r r.x y t (λ s. in_rect r y h k)

-- a text in a rectangle of its own
pub text_paints : (v seen r : Rect) (y : ℤ) (t : List ℕ) → r.y ≤ℤ y → y <ℤ end_y_of r → PutsRows v seen y (text_puts r r.x y t) (put_over v r t ∷ [])
text_paints v seen r y t h k = one_row_paints v seen y _ _ (one_over v seen r y t h k)

-- texts one below another in a rectangle
pub lines_paint : (v seen r : Rect) (y : ℤ) (ts : List (List ℕ)) → r.y ≤ℤ y → (y +ℤ pos (length ts)) ≤ℤ end_y_of r → PutsRows v seen y (lines_puts r r.x y ts) (map (put_over v r) ts)
unfolding lines_puts
lines_paint v seen r y [] h k = paints_none v seen y
lines_paint v seen r y (t ∷ ts) h k =
    paints_more v seen y _ _ (put_over v r t ∷ []) (map (put_over v r) ts) (text_paints v seen r y t h (omega (arith, ints))) (lines_paint v seen r (y +ℤ pos 1) ts (omega (arith, ints)) (omega (arith, ints)))

-- ---- blanks

pub spaces_of : (x y : ℤ) (n : ℕ) → row_text Blank x y n ≡ replicate n 32
unfolding row_text symbol_at
spaces_of x y zero = refl
spaces_of x y (suc n) =
    let one : encode_utf8 32 ≡ 32 ∷ [] = encode_ascii 32 (omega arith) in
    rw one (ap (λ w. 32 ∷ w) (spaces_of (x +ℤ pos 1) y n))

-- spaces over the columns of a rectangle
abbrev pub blank_over : Rect → Rect → Row → Row
blank_over v q = put_over v q (replicate q.width 32)

rows_one : (f : Filling) (r : Rect) (y : ℤ) → rows_puts f r y 1 ≡ text_puts r r.x y (row_text f r.x y r.width)
unfolding rows_puts
rows_one f r y = append-nil (text_puts r r.x y (row_text f r.x y r.width))

blank_row : (v seen q : Rect) (y : ℤ) (n : ℕ) → q.y ≡ y → n ≡ 1 → q.height ≡ 1 → OneRow v seen y (rows_puts Blank q q.y n) (blank_over v q)
blank_row v seen q y n e k h =
    let one : OneRow v seen q.y (text_puts q q.x q.y (replicate q.width 32)) (blank_over v q) = one_over v seen q q.y (replicate q.width 32) (omega (arith, ints)) (omega (arith, ints, h)) in
    let first : rows_puts Blank q q.y n ≡ text_puts q q.x q.y (replicate q.width 32) = ap (rows_puts Blank q q.y) k ∙ rows_one Blank q q.y ∙ ap (text_puts q q.x q.y) (spaces_of q.x q.y q.width) in
    subst (λ z. OneRow v seen z (rows_puts Blank q q.y n) (blank_over v q)) e (subst (λ ps. OneRow v seen q.y ps (blank_over v q)) (sym first) one)

shown_row : (m : Rect) (x y : ℤ) (n : ℕ) → has_row m y ≡ true → ((intersect_of (row_rect x y n) m).y ≡ y) × ((intersect_of (row_rect x y n) m).height ≡ 1)
unfolding rect_between
shown_row m x y n e =
    let a : m.y ≤ℤ y = grind (arith, ints) in
    let b : y <ℤ end_y_of m = grind (arith, ints) in
    (omega (arith, places), omega (arith, places))

hidden_row : (m : Rect) (x y : ℤ) (n : ℕ) → has_row m y ≡ false → (intersect_of (row_rect x y n) m).height ≡ 0
unfolding rect_between
hidden_row m x y n e = elim (off_cases m y e) [ inl p ↦ omega (arith, places) | inr p ↦ omega (arith, places) ]

-- one row of a rectangle, blanked where drawing reaches
pub one_blank : (K : Type 0) (v seen : Rect) (s : Sight) (x y : ℤ) (n : ℕ) → IsReached seen (reach s) y
    → OneRow v seen y (blank_picture {K = K} s (row_rect x y n)).puts (blank_over v (intersect_of (row_rect x y n) (reach s)))
unfolding blank_picture
one_blank K v seen s x y n reached = go (has_row (reach s) y) (has_row seen y) refl refl
  where
    q : Rect
    q = intersect_of (row_rect x y n) (reach s)

    go : (b c : Bool) → has_row (reach s) y ≡ b → has_row seen y ≡ c → OneRow v seen y (rows_puts Blank q q.y q.height) (blank_over v q)
    go true c h f = let at = shown_row (reach s) x y n h in blank_row v seen q y q.height at.0 at.1 at.1
    go false true h f = absurd (cc (reached f, h))
    go false false h f = λ z row k. rw (rows_puts-none Blank q q.y q.height (hidden_row (reach s) x y n h), not_seen seen y f z k) (paint-none v z row)

-- ---- borders

-- the text of a row n columns wide: a symbol, another as often as it fits, and a third
abbrev pub edge_text : ℕ → ℕ → ℕ → ℕ → List ℕ
edge_text a b c n = encode_utf8 a ++ (concat (replicate (n - 2) (encode_utf8 b)) ++ encode_utf8 c)

abbrev Edges : Rect → ℤ → ℕ → ℕ → ℕ → Type 0
Edges r y a b c = (x : ℤ) → symbol_at (Border r) x y ≡ edge_symbol r x a b c

int_eq-true : (a b : ℤ) → a ≡ b → int_eq a b ≡ true
int_eq-true a b e = (Decides-int_eq a b).1 e

between_text : (r : Rect) (y : ℤ) (a b c : ℕ) → Edges r y a b c → (k : ℕ) (x : ℤ) → x +ℤ pos (suc k) ≡ end_x_of r → r.x <ℤ x
    → row_text (Border r) x y (suc k) ≡ concat (replicate k (encode_utf8 b)) ++ encode_utf8 c
unfolding row_text
between_text r y a b c each zero x e h =
    let not_first : int_eq x r.x ≡ false = int_eq-false x r.x (λ q. absurd (omega (arith, ints, q))) in
    let last : int_eq x (end_x_of r -ℤ pos 1) ≡ true = int_eq-true x (end_x_of r -ℤ pos 1) (omega (arith, ints)) in
    rw (each x, not_first, last) (append-nil (encode_utf8 c))
between_text r y a b c each (suc k) x e h =
    let not_first : int_eq x r.x ≡ false = int_eq-false x r.x (λ q. absurd (omega (arith, ints, q))) in
    let not_last : int_eq x (end_x_of r -ℤ pos 1) ≡ false = int_eq-false x (end_x_of r -ℤ pos 1) (λ q. absurd (omega (arith, ints, q, e))) in
    let more = between_text r y a b c each k (x +ℤ pos 1) (omega (arith, ints, e)) (omega (arith, ints)) in
    rw (each x, not_first, not_last, more) (sym (append_assoc (encode_utf8 b) (concat (replicate k (encode_utf8 b))) (encode_utf8 c)))

whole_text : (r : Rect) (y : ℤ) (a b c k n : ℕ) → Edges r y a b c → r.width ≡ suc (suc k) → n ≡ suc (suc k) → row_text (Border r) r.x y n ≡ edge_text a b c n
whole_text r y a b c k n each w e =
    let first : int_eq r.x r.x ≡ true = int_eq-true r.x r.x refl in
    let left : n - 2 ≡ k = omega (arith, e) in
    let more = between_text r y a b c each k (r.x +ℤ pos 1) (omega (arith, ints, w)) (omega (arith, ints)) in
    row_text-more (Border r) r.x y n (suc k) e ∙ rw (each r.x, first, more, left) refl

abbrev pub top_text : ℕ → List ℕ
top_text n = edge_text 0x250C 0x2500 0x2510 n

abbrev pub side_text : ℕ → List ℕ
side_text n = edge_text 0x2502 0x20 0x2502 n

abbrev pub bottom_text : ℕ → List ℕ
bottom_text n = edge_text 0x2514 0x2500 0x2518 n

top_edges : (r : Rect) (y : ℤ) → y ≡ r.y → Edges r y 0x250C 0x2500 0x2510
unfolding symbol_at border_symbol
top_edges r y e x = rw (int_eq-true y r.y e) refl

side_edges : (r : Rect) (y : ℤ) → r.y <ℤ y → y <ℤ (end_y_of r -ℤ pos 1) → Edges r y 0x2502 0x20 0x2502
unfolding symbol_at border_symbol
side_edges r y h k x =
    let a : int_eq y r.y ≡ false = int_eq-false y r.y (λ q. absurd (omega (arith, ints, q))) in
    let b : int_eq y (end_y_of r -ℤ pos 1) ≡ false = int_eq-false y (end_y_of r -ℤ pos 1) (λ q. absurd (omega (arith, ints, q))) in
    rw (a, b) refl

bottom_edges : (r : Rect) (y : ℤ) → r.y <ℤ y → y ≡ end_y_of r -ℤ pos 1 → Edges r y 0x2514 0x2500 0x2518
unfolding symbol_at border_symbol
bottom_edges r y h e x =
    let a : int_eq y r.y ≡ false = int_eq-false y r.y (λ q. absurd (omega (arith, ints, q))) in
    rw (a, int_eq-true y (end_y_of r -ℤ pos 1) e) refl

edge_row : (v seen r : Rect) (y : ℤ) (t : List ℕ) → r.y ≤ℤ y → y <ℤ end_y_of r → row_text (Border r) r.x y r.width ≡ t → PutsRows v seen y (text_puts r r.x y (row_text (Border r) r.x y r.width)) (put_over v r t ∷ [])
edge_row v seen r y t h k e = rw e (text_paints v seen r y t h k)

sides-paint : (v seen r : Rect) (n : ℕ) → r.width ≡ suc (suc n) → (k : ℕ) (y : ℤ) → r.y <ℤ y → y +ℤ pos (suc k) ≡ end_y_of r
    → PutsRows v seen y (rows_puts (Border r) r y (suc k)) (replicate k (put_over v r (side_text r.width)) ++ put_over v r (bottom_text r.width) ∷ [])
unfolding rows_puts
sides-paint v seen r n w zero y h e =
    rw (append-nil (text_puts r r.x y (row_text (Border r) r.x y r.width)))
    (edge_row v seen r y (bottom_text r.width) (omega (arith, ints)) (omega (arith, ints, e)) (whole_text r y 0x2514 0x2500 0x2518 n r.width (bottom_edges r y h (omega (arith, ints, e))) w w))
sides-paint v seen r n w (suc k) y h e =
    paints_more v seen y _ _ (put_over v r (side_text r.width) ∷ []) (replicate k (put_over v r (side_text r.width)) ++ put_over v r (bottom_text r.width) ∷ [])
    (edge_row v seen r y (side_text r.width) (omega (arith, ints)) (omega (arith, ints, e)) (whole_text r y 0x2502 0x20 0x2502 n r.width (side_edges r y h (omega (arith, ints, e))) w w))
    (sides-paint v seen r n w k (y +ℤ pos 1) (omega (arith, ints)) (omega (arith, ints, e)))

-- a frame's border, with spaces inside
unfoldable pub border_puts : Rect → List Put
border_puts r = fill_puts (Border r) r

two_more : (n : ℕ) → 2 ≤ n → (k : ℕ) × (n ≡ suc (suc k))
two_more n h = (n - 2, omega arith)

border_rows : (v seen r : Rect) (n m k : ℕ) → r.width ≡ suc (suc n) → r.height ≡ suc (suc k) → m ≡ suc (suc k)
    → PutsRows v seen r.y (rows_puts (Border r) r r.y m) (put_over v r (top_text r.width) ∷ (replicate (m - 2) (put_over v r (side_text r.width)) ++ put_over v r (bottom_text r.width) ∷ []))
border_rows v seen r n m k w h e =
    let left : m - 2 ≡ k = omega (arith, e) in
    rw (rows_puts-more (Border r) r r.y m (suc k) e, left)
    (paints_more v seen r.y _ _ (put_over v r (top_text r.width) ∷ []) _
    (edge_row v seen r r.y (top_text r.width) (omega (arith, ints)) (omega (arith, ints, h)) (whole_text r r.y 0x250C 0x2500 0x2510 n r.width (top_edges r r.y refl) w w))
    (sides-paint v seen r n w k (r.y +ℤ pos 1) (omega (arith, ints)) (omega (arith, ints, h))))

pub border_paints : (v seen r : Rect) → 2 ≤ r.width → 2 ≤ r.height
    → PutsRows v seen r.y (border_puts r) (put_over v r (top_text r.width) ∷ (replicate (r.height - 2) (put_over v r (side_text r.width)) ++ put_over v r (bottom_text r.width) ∷ []))
unfolding border_puts
border_paints v seen r a b =
    let n = two_more r.width a in
    let m = two_more r.height b in
    border_rows v seen r n.0 r.height m.0 n.1 m.1 m.1

-- the puts of a frame that drawing reaches whole
pub frame-puts : (K : Type 0) (s : Sight) (r : Rect) (title : List ℕ) (body : List (List ℕ)) → is_empty r ≡ false → intersect_of r (reach s) ≡ r
    → intersect_of (title_room r) (reach s) ≡ title_room r → intersect_of (body_room r) (reach s) ≡ body_room r
    → (frame_picture {K = K} s r title body).puts ≡ border_puts r ++ (text_puts (title_room r) (r.x +ℤ pos 1) r.y title ++ lines_puts (body_room r) (r.x +ℤ pos 1) (r.y +ℤ pos 1) (take (r.height - 2) body))
unfolding frame_picture frame_puts border_puts
frame-puts K s r title body some a b c = rw (some, a, b, c) refl
