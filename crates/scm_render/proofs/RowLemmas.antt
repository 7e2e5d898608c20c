-- A row of the document after drawing, one row at a time.
use Rattle.std.proofs.Common.{◌≡◌, ℕ, ◌<◌, ◌≤◌, List, [], ◌∷◌, ◌++◌, length, refl, sym, ap, ◌∙◌, arith, cond, true, false, Bool, inl, inr}
use Rattle.std.specs.Prelude.{ℤ, pos, ◌+ℤ◌, ◌-ℤ◌, ◌≤ℤ◌, int_lt, if◌then◌else◌}
use Rattle.std.specs.Int.{int_min, int_max}
use Rattle.std.specs.Ordering.{int_eq}
use Rattle.std.proofs.lemmas.Bool.{cases_lt}
use Rattle.std.proofs.lemmas.Int.{ints}
use Rattle.scm_cells.specs.Rect.{end_x_of, rect_between, or_zero}
use Rattle.scm_cells.specs.Clusters.{text_width, clusters}
use Rattle.scm_cells.specs.Row.{put, ellipsis}
use Rattle.scm_cells.specs.declared.rect.Rect.{Rect}
use Rattle.scm_cells.proofs.RectLemmas.{places}
use Rattle.scm_cells.proofs.RowLemmas.{overlay-none}
use Rattle.scm_cells.proofs.WrittenLemmas.{written-closed}
use Rattle.scm_render.specs.Lines.{line}
use Rattle.scm_render.specs.Picture.{Put, nothing, followed_by}
use Rattle.scm_render.specs.Canvas.{Row, Sight, put_at, paint}
use Rattle.scm_render.specs.Drawing.{reach, has_row, whole_put, text_puts, texts_puts, texts_width, line_picture, span_picture, text_picture}
use Rattle.scm_render.specs.Rows.{put_texts, say_texts, limit}
use Rattle.scm_render.proofs.RowsWithin.{put_within, put_texts_within, say_within}
use Rattle.scm_render.proofs.LineLemmas.{line-append}
use Rattle.scm_render.proofs.PaintLemmas.{paint-append, paint-none, paint-more, int_eq-false}
use Rattle.scm_render.proofs.DrawLemmas.{text_puts-shown, text_puts-hidden, texts_puts-none, texts_puts-more}

-- ---- parts on one row, and on consecutive rows: on the rows of `seen`, which may be fewer than the screen's, as those
-- ---- that a mask lets through

-- on the rows of `seen` the puts stand on row y alone, and change it by f
abbrev pub OneRow : Rect → Rect → ℤ → List Put → (Row → Row) → Type 0
OneRow v seen y ps f = (z : ℤ) (row : Row) → has_row seen z ≡ true → paint v ps z row ≡ cond (int_eq z y) (f row) row

-- on the rows of `seen` the puts stand on the rows from y on, one row for each function
abbrev pub PutsRows : Rect → Rect → ℤ → List Put → List (Row → Row) → Type 0
PutsRows v seen y ps fs = (z : ℤ) (row : Row) → has_row seen z ≡ true → paint v ps z row ≡ line (λ r. r) fs y z row

same_either : (b : Bool) (row : Row) → row ≡ cond b row row
same_either true row = refl
same_either false row = refl

pub one_none : (v seen : Rect) (y : ℤ) → OneRow v seen y [] (λ r. r)
one_none v seen y z row h = paint-none v z row ∙ same_either (int_eq z y) row

pub one_put : (v seen : Rect) (p : Put) → OneRow v seen p.row (p ∷ []) (put_at v p)
one_put v seen p z row h = paint-more v p [] z row ∙ paint-none v z (cond (int_eq z p.row) (put_at v p row) row)

in_turn : (b : Bool) (f g : Row → Row) (row : Row) → cond b (g (cond b (f row) row)) (cond b (f row) row) ≡ cond b (g (f row)) row
in_turn true f g row = refl
in_turn false f g row = refl

pub one_more : (v seen : Rect) (y : ℤ) (ps qs : List Put) (f g : Row → Row) → OneRow v seen y ps f → OneRow v seen y qs g → OneRow v seen y (ps ++ qs) (λ r. g (f r))
one_more v seen y ps qs f g hp hq z row h =
    paint-append v ps qs z row ∙ ap (λ w. paint v qs z w) (hp z row h) ∙ hq z (cond (int_eq z y) (f row) row) h ∙ in_turn (int_eq z y) f g row

-- a function that makes the same of each row
pub one_same : (v seen : Rect) (y : ℤ) (ps : List Put) (f g : Row → Row) → ((row : Row) → f row ≡ g row) → OneRow v seen y ps f → OneRow v seen y ps g
one_same v seen y ps f g e hp z row h = hp z row h ∙ ap (λ w. cond (int_eq z y) w row) (e row)

-- a row that is not seen
pub not_seen : (seen : Rect) (y : ℤ) → has_row seen y ≡ false → (z : ℤ) → has_row seen z ≡ true → int_eq z y ≡ false
not_seen seen y e z h = int_eq-false z y (λ q. absurd (cc (h, ap (has_row seen) q, e)))

one_of : (b : Bool) (f : Row → Row) (row : Row) → cond b (f row) row ≡ (cond b f (λ r. r)) row
one_of true f row = refl
one_of false f row = refl

pub one_row_paints : (v seen : Rect) (y : ℤ) (ps : List Put) (f : Row → Row) → OneRow v seen y ps f → PutsRows v seen y ps (f ∷ [])
unfolding line
one_row_paints v seen y ps f p z row h = p z row h ∙ one_of (int_eq z y) f row

pub paints_none : (v seen : Rect) (y : ℤ) → PutsRows v seen y [] []
unfolding line
paints_none v seen y z row h = paint-none v z row

pub paints_more : (v seen : Rect) (y : ℤ) (ps qs : List Put) (fs gs : List (Row → Row)) → PutsRows v seen y ps fs → PutsRows v seen (y +ℤ pos (length fs)) qs gs → PutsRows v seen y (ps ++ qs) (fs ++ gs)
paints_more v seen y ps qs fs gs hp hq z row h =
    paint-append v ps qs z row ∙ ap (λ w. paint v qs z w) (hp z row h) ∙ hq z (line (λ r. r) fs y z row) h
    ∙ ap (λ (f : Row → Row). f row) (line-append (λ r. r) (λ f g r. g (f r)) (λ m. refl) (λ m. refl) fs gs y z)

-- ---- texts

-- drawing reaches a row if the row is seen: so also under a mask of that row alone
abbrev pub IsReached : Rect → Rect → ℤ → Type 0
IsReached seen m y = has_row seen y ≡ true → has_row m y ≡ true

pub one_text : (v seen m : Rect) (x y : ℤ) (t : List ℕ) → IsReached seen m y → OneRow v seen y (text_puts m x y t) (put_within v m x t)
one_text v seen m x y t reached z row h = go (has_row m y) (has_row seen y) refl refl
  where
    go : (b c : Bool) → has_row m y ≡ b → has_row seen y ≡ c → paint v (text_puts m x y t) z row ≡ cond (int_eq z y) (put_within v m x t row) row
    go true c e f = rw (text_puts-shown m x y t e) (one_put v seen (whole_put m x y t) z row h)
    go false true e f = absurd (cc (reached f, e))
    go false false e f = rw (text_puts-hidden m x y t e, not_seen seen y f z h) (paint-none v z row)

put_texts-none : (row : Row) (column : ℤ) (low high : ℕ) → put_texts row column [] low high ≡ row
unfolding put_texts
put_texts-none row column low high = refl

put_texts-more : (row : Row) (column : ℤ) (t : List ℕ) (ts : List (List ℕ)) (low high : ℕ) → put_texts row column (t ∷ ts) low high ≡ put_texts (put row column t low high) (column +ℤ pos (text_width t)) ts low high
unfolding put_texts
put_texts-more row column t ts low high = refl

pub one_texts : (v seen m : Rect) (x y : ℤ) (ts : List (List ℕ)) → IsReached seen m y → OneRow v seen y (texts_puts m x y ts) (put_texts_within v m x ts)
one_texts v seen m x y [] reached =
    rw (texts_puts-none m x y [] refl) (one_same v seen y [] _ _ (λ row. sym (put_texts-none row (x -ℤ v.x) (limit v m.x) (limit v (end_x_of m)))) (one_none v seen y))
one_texts v seen m x y (t ∷ ts) reached =
    let shift : (x +ℤ pos (text_width t)) -ℤ v.x ≡ (x -ℤ v.x) +ℤ pos (text_width t) = omega (arith, ints) in
    rw (texts_puts-more m x y t ts (t ∷ ts) refl)
    (one_same v seen y _ _ _
    (λ row. ap (λ c. put_texts (put_within v m x t row) c ts (limit v m.x) (limit v (end_x_of m))) shift ∙ sym (put_texts-more row (x -ℤ v.x) t ts (limit v m.x) (limit v (end_x_of m))))
    (one_more v seen y _ _ _ _ (one_text v seen m x y t reached) (one_texts v seen m (x +ℤ pos (text_width t)) y ts reached)))

-- ---- texts with an ellipsis

-- between limits that leave no column nothing is put
pub put-closed : (row : Row) (column : ℤ) (t : List ℕ) (low high : ℕ) → high ≤ low → put row column t low high ≡ row
unfolding put
put-closed row column t low high h = overlay-none row _ _ (ap length (written-closed (clusters t) column low high h))

put_texts-closed : (row : Row) (column : ℤ) (ts : List (List ℕ)) (low high : ℕ) → high ≤ low → put_texts row column ts low high ≡ row
put_texts-closed row column [] low high h = put_texts-none row column low high
put_texts-closed row column (t ∷ ts) low high h =
    put_texts-more row column t ts low high ∙ put_texts-closed (put row column t low high) (column +ℤ pos (text_width t)) ts low high h ∙ put-closed row column t low high h

say_texts-closed : (row : Row) (column : ℤ) (ts : List (List ℕ)) (low high : ℕ) → high ≤ low → say_texts row column ts low high ≡ row
unfolding say_texts
say_texts-closed row column ts low high h = go (int_lt (pos high) (column +ℤ pos (texts_width ts)))
  where
    go : (b : Bool) → cond b (put (put_texts row column ts low high) (pos high -ℤ pos 1) ellipsis low high) (put_texts row column ts low high) ≡ row
    go true = put-closed (put_texts row column ts low high) (pos high -ℤ pos 1) ellipsis low high h ∙ put_texts-closed row column ts low high h
    go false = put_texts-closed row column ts low high h

say_texts-cut : (row : Row) (column : ℤ) (ts : List (List ℕ)) (low high : ℕ) → int_lt (pos high) (column +ℤ pos (texts_width ts)) ≡ true
    → say_texts row column ts low high ≡ put (put_texts row column ts low high) (pos high -ℤ pos 1) ellipsis low high
unfolding say_texts
say_texts-cut row column ts low high e = rw e refl

say_texts-whole : (row : Row) (column : ℤ) (ts : List (List ℕ)) (low high : ℕ) → int_lt (pos high) (column +ℤ pos (texts_width ts)) ≡ false
    → say_texts row column ts low high ≡ put_texts row column ts low high
unfolding say_texts
say_texts-whole row column ts low high e = rw e refl

-- a part of the screen: it begins on it, and ends on it if it has a column
record IsPart (v m : Rect) : Type 0 where
  begins : v.x ≤ℤ m.x
  ends : 0 < m.width → end_x_of m ≤ℤ end_x_of v

part-begins : (a b : ℤ) → b ≤ℤ int_max a b
part-begins a b = omega (arith, places)

part-ends : (a b e f : ℤ) → 0 < or_zero (int_min e f -ℤ int_max a b) → (int_max a b +ℤ pos (or_zero (int_min e f -ℤ int_max a b))) ≤ℤ f
part-ends a b e f h = omega (arith, places)

IsPart-reach : (s : Sight) → IsPart s.rect (reach s)
unfolding reach rect_between
IsPart-reach s = record { begins = part-begins _ s.rect.x; ends = λ h. part-ends _ s.rect.x _ (end_x_of s.rect) h }

limits-closed : (v m : Rect) → m.width ≡ 0 → limit v (end_x_of m) ≤ limit v m.x
limits-closed v m e =
    let same : end_x_of m ≡ m.x = omega (arith, ints, e) in
    rw same (omega arith)

limit-end : (v m : Rect) → IsPart v m → 0 < m.width → pos (limit v (end_x_of m)) ≡ end_x_of m -ℤ v.x
limit-end v m p h =
    let e = p.ends h in
    omega (arith, places, p.begins, e)

-- the puts of a line and of its ellipsis
abbrev cut_puts : Rect → ℤ → ℤ → List (List ℕ) → Bool → List Put
cut_puts m x y ts true = texts_puts m x y ts ++ text_puts m (end_x_of m -ℤ pos 1) y ellipsis
cut_puts m x y ts false = texts_puts m x y ts ++ []

puts-cut : (K : Type 0) (s : Sight) (x y : ℤ) (ts : List (List ℕ)) → (text_picture {K = K} s x y ts).puts ≡ cut_puts (reach s) x y ts (int_lt (end_x_of (reach s)) (x +ℤ pos (texts_width ts)))
unfolding text_picture followed_by line_picture span_picture nothing
puts-cut K s x y ts = go (int_lt (end_x_of (reach s)) (x +ℤ pos (texts_width ts)))
  where
    go : (b : Bool) → texts_puts (reach s) x y ts ++ (if b then span_picture {K = K} s (end_x_of (reach s) -ℤ pos 1) y ellipsis else nothing).puts ≡ cut_puts (reach s) x y ts b
    go true = refl
    go false = refl

one_cut : (v seen m : Rect) (x y : ℤ) (ts : List (List ℕ)) → IsPart v m → IsReached seen m y → OneRow v seen y (cut_puts m x y ts (int_lt (end_x_of m) (x +ℤ pos (texts_width ts)))) (say_within v m x ts)
one_cut v seen m x y ts p reached = go (int_lt (end_x_of m) (x +ℤ pos (texts_width ts))) refl
  where
    low : ℕ
    low = limit v m.x

    high : ℕ
    high = limit v (end_x_of m)

    column : ℤ
    column = x -ℤ v.x

    line_on : OneRow v seen y (texts_puts m x y ts) (put_texts_within v m x ts)
    line_on = one_texts v seen m x y ts reached

    -- how the limit on the screen and the one in the document compare with the text's end
    same_test : 0 < m.width → (b : Bool) → int_lt (end_x_of m) (x +ℤ pos (texts_width ts)) ≡ b → int_lt (pos high) (column +ℤ pos (texts_width ts)) ≡ b
    same_test h true e = let end = limit-end v m p h in rw end (grind (arith, ints, e))
    same_test h false e = let end = limit-end v m p h in rw end (grind (arith, ints, e))

    made : (b : Bool) → int_lt (end_x_of m) (x +ℤ pos (texts_width ts)) ≡ b → (row : Row) → cond b (put_within v m (end_x_of m -ℤ pos 1) ellipsis (put_texts_within v m x ts row)) (put_texts_within v m x ts row) ≡ say_within v m x ts row
    made true e row = elim (cases_lt 0 m.width) [
      | inl h ↦ (let end = limit-end v m p h in
          let last : (end_x_of m -ℤ pos 1) -ℤ v.x ≡ pos high -ℤ pos 1 = omega (arith, ints, end) in
          ap (λ c. put (put_texts_within v m x ts row) c ellipsis low high) last ∙ sym (say_texts-cut row column ts low high (same_test h true e)))
      | inr h ↦ (let closed : high ≤ low = limits-closed v m (omega (arith, h)) in
          put-closed (put_texts_within v m x ts row) _ ellipsis low high closed ∙ put_texts-closed row column ts low high closed ∙ sym (say_texts-closed row column ts low high closed))
    ]
    made false e row = elim (cases_lt 0 m.width) [
      | inl h ↦ sym (say_texts-whole row column ts low high (same_test h false e))
      | inr h ↦ (let closed : high ≤ low = limits-closed v m (omega (arith, h)) in
          put_texts-closed row column ts low high closed ∙ sym (say_texts-closed row column ts low high closed))
    ]

    go : (b : Bool) → int_lt (end_x_of m) (x +ℤ pos (texts_width ts)) ≡ b → OneRow v seen y (cut_puts m x y ts b) (say_within v m x ts)
    go true e = one_same v seen y _ _ _ (made true e) (one_more v seen y _ _ _ _ line_on (one_text v seen m (end_x_of m -ℤ pos 1) y ellipsis reached))
    go false e = one_same v seen y _ _ _ (made false e) (one_more v seen y _ _ _ _ line_on (one_none v seen y))

-- the picture of a text says it on its row
pub one_said : (K : Type 0) (seen : Rect) (s : Sight) (x y : ℤ) (ts : List (List ℕ)) → IsReached seen (reach s) y
    → OneRow s.rect seen y (text_picture {K = K} s x y ts).puts (say_within s.rect (reach s) x ts)
one_said K seen s x y ts reached = rw (puts-cut K s x y ts) (one_cut s.rect seen (reach s) x y ts (IsPart-reach s) reached)
