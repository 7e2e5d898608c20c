-- The rows and columns of rectangles that are joined.
use Rattle.std.proofs.Common.{◌≡◌, ℕ, ◌+◌, ◌<◌, ◌≤◌, refl, arith, true, false, ◌⊎◌, inl, inr}
use Rattle.std.specs.Prelude.{ℤ, pos, ◌+ℤ◌, ◌-ℤ◌, negsuc, ◌<ℤ◌, ◌≤ℤ◌}
use Rattle.std.specs.Int.{int_max, int_min}
use Rattle.std.proofs.lemmas.Int.{ints, clamps}
use Rattle.std.proofs.lemmas.Bool.Decides.{nat_tests}
use Rattle.scm_cells.specs.Rect.{is_empty, rect_between, or_zero, end_x_of as end_x, end_y_of as end_y}
use Rattle.scm_cells.specs.declared.rect.Rect.{Rect}
use Rattle.scm_render.specs.Around.{join}

-- the rectangle is on the rows from y on, n of them, from column l to w or beyond
pub record Spans (r : Rect) (y : ℤ) (n : ℕ) (l : ℤ) (w : ℕ) : Type 0 where
  pub top : r.y ≡ y
  pub rows : r.height ≡ n
  pub left : r.x ≡ l
  pub right : pos w ≤ℤ end_x r

-- the rectangle is empty, or on those rows and not left of column l
pub record IsIn (r : Rect) (y : ℤ) (n : ℕ) (l : ℤ) : Type 0 where
  pub top : (0 < r.width) → (0 < r.height) → y ≤ℤ r.y
  pub end : (0 < r.width) → (0 < r.height) → end_y r ≤ℤ (y +ℤ pos n)
  pub left : (0 < r.width) → (0 < r.height) → l ≤ℤ r.x

pub not_empty : (r : Rect) → 0 < r.width → 0 < r.height → is_empty r ≡ false
not_empty r a b = grind (arith, nat_tests)

pub join-x : (a b : Rect) → is_empty a ≡ false → is_empty b ≡ false → (join a b).x ≡ int_min a.x b.x
unfolding join rect_between
join-x a b p q = rw (q, p) refl

pub join-y : (a b : Rect) → is_empty a ≡ false → is_empty b ≡ false → (join a b).y ≡ int_min a.y b.y
unfolding join rect_between
join-y a b p q = rw (q, p) refl

or_zero_gap : (x y d : ℤ) → y -ℤ x ≡ d → x ≤ℤ y → x +ℤ pos (or_zero d) ≡ y
or_zero_gap x y (pos n) e h = omega (arith, ints)
or_zero_gap x y (negsuc n) e h = absurd (omega (arith, ints))

pub join-end_x : (a b : Rect) → is_empty a ≡ false → is_empty b ≡ false → end_x (join a b) ≡ int_max (end_x a) (end_x b)
unfolding join rect_between
join-end_x a b p q =
    let reach : int_min a.x b.x ≤ℤ int_max (end_x a) (end_x b) = omega (arith, ints, clamps) in
    rw (q, p) (or_zero_gap (int_min a.x b.x) (int_max (end_x a) (end_x b)) _ refl reach)

pub join-end_y : (a b : Rect) → is_empty a ≡ false → is_empty b ≡ false → end_y (join a b) ≡ int_max (end_y a) (end_y b)
unfolding join rect_between
join-end_y a b p q =
    let reach : int_min a.y b.y ≤ℤ int_max (end_y a) (end_y b) = omega (arith, ints, clamps) in
    rw (q, p) (or_zero_gap (int_min a.y b.y) (int_max (end_y a) (end_y b)) _ refl reach)

pub join_empty_left : (a b : Rect) → is_empty a ≡ true → is_empty b ≡ false → join a b ≡ b
unfolding join
join_empty_left a b p q = rw (q, p) refl

pub join_none : (a b : Rect) → is_empty b ≡ true → join a b ≡ a
unfolding join
join_none a b q = rw q refl

pub spans_not_empty : (r : Rect) (y : ℤ) (n : ℕ) (l : ℤ) (w : ℕ) → 0 < n → l <ℤ pos w → Spans r y n l w → is_empty r ≡ false
spans_not_empty r y n l w some wide h = not_empty r (omega (arith, ints, h.left, h.right)) (omega (arith, h.rows))

-- one rectangle over another
pub spans_more : (a b : Rect) (y : ℤ) (n m : ℕ) (l k : ℤ) (w : ℕ) → 0 < n → 0 < m → l <ℤ pos w → k <ℤ pos w
    → Spans a y n l w → Spans b (y +ℤ pos n) m k w → Spans (join a b) y (n + m) (int_min l k) w
spans_more a b y n m l k w some any wide wide' ha hb =
    let p = spans_not_empty a y n l w some wide ha in
    let q = spans_not_empty b (y +ℤ pos n) m k w any wide' hb in
    let ex = join-x a b p q in
    let ey = join-y a b p q in
    let fx = join-end_x a b p q in
    let fy = join-end_y a b p q in
    record {
      top = rw (ey, ha.top, hb.top) (omega (arith, ints, clamps));
      rows = omega (arith, ints, clamps, ey, fy, ha.top, hb.top, ha.rows, hb.rows);
      left = rw (ex, ha.left, hb.left) refl;
      right = rw fx (omega (arith, ints, clamps, ha.right));
    }

pub empty_cases : (r : Rect) → (is_empty r ≡ true) ⊎ ((is_empty r ≡ false) × (0 < r.width) × (0 < r.height))
empty_cases r = grind (arith, nat_tests)

-- two parts of the same rows
pub spans_beside : (a b : Rect) (y : ℤ) (n : ℕ) (l k : ℤ) (w u : ℕ) → 0 < n → l <ℤ pos w → k <ℤ pos u → u ≤ w
    → Spans a y n l w → Spans b y n k u → Spans (join a b) y n (int_min l k) w
spans_beside a b y n l k w u some wide wide' less ha hb =
    let p = spans_not_empty a y n l w some wide ha in
    let q = spans_not_empty b y n k u some wide' hb in
    let ex = join-x a b p q in
    let ey = join-y a b p q in
    let fx = join-end_x a b p q in
    let fy = join-end_y a b p q in
    record {
      top = omega (arith, ints, clamps, ey, ha.top, hb.top);
      rows = omega (arith, ints, clamps, ey, fy, ha.top, hb.top, ha.rows, hb.rows);
      left = rw (ex, ha.left, hb.left) refl;
      right = rw fx (omega (arith, ints, clamps, ha.right));
    }

-- a part that lies within
pub spans_in : (a b : Rect) (y : ℤ) (n : ℕ) (l : ℤ) (w : ℕ) → 0 < n → l <ℤ pos w
    → Spans a y n l w → IsIn b y n l → Spans (join a b) y n l w
spans_in a b y n l w some wide ha hb = go (empty_cases b)
  where
    p : is_empty a ≡ false
    p = spans_not_empty a y n l w some wide ha

    go : (is_empty b ≡ true) ⊎ ((is_empty b ≡ false) × (0 < b.width) × (0 < b.height)) → Spans (join a b) y n l w
    go (inl e) = rw (join_none a b e) ha
    go (inr q) =
        let ex = join-x a b p q.0 in
        let ey = join-y a b p q.0 in
        let fx = join-end_x a b p q.0 in
        let fy = join-end_y a b p q.0 in
        let t = hb.top q.1 q.2 in
        let e = hb.end q.1 q.2 in
        let f = hb.left q.1 q.2 in
        record {
          top = omega (arith, ints, clamps, ey, ha.top, t);
          rows = omega (arith, ints, clamps, ey, fy, ha.top, ha.rows, t, e);
          left = omega (arith, ints, clamps, ex, ha.left, f);
          right = rw fx (omega (arith, ints, clamps, ha.right));
        }

pub in_more : (a b : Rect) (y : ℤ) (n : ℕ) (l : ℤ) → IsIn a y n l → IsIn b y n l → IsIn (join a b) y n l
in_more a b y n l ha hb = go (empty_cases a) (empty_cases b)
  where
    go : (is_empty a ≡ true) ⊎ ((is_empty a ≡ false) × (0 < a.width) × (0 < a.height)) → (is_empty b ≡ true) ⊎ ((is_empty b ≡ false) × (0 < b.width) × (0 < b.height)) → IsIn (join a b) y n l
    go p (inl e) = rw (join_none a b e) ha
    go (inl e) (inr q) = rw (join_empty_left a b e q.0) hb
    go (inr p) (inr q) =
        let ex = join-x a b p.0 q.0 in
        let ey = join-y a b p.0 q.0 in
        let fy = join-end_y a b p.0 q.0 in
        let at = ha.top p.1 p.2 in
        let ae = ha.end p.1 p.2 in
        let al = ha.left p.1 p.2 in
        let bt = hb.top q.1 q.2 in
        let be = hb.end q.1 q.2 in
        let bl = hb.left q.1 q.2 in
        record {
          top = λ _ _. omega (arith, ints, clamps, ey, at, bt);
          end = λ _ _. rw fy (omega (arith, ints, clamps, ae, be));
          left = λ _ _. omega (arith, ints, clamps, ex, al, bl);
        }

-- a rectangle of one row
pub in_row : (x y : ℤ) (n : ℕ) (l : ℤ) → l ≤ℤ x → IsIn (record { x = x; y = y; width = n; height = 1 }) y 1 l
in_row x y n l h = record { top = λ _ _. omega (arith, ints); end = λ _ _. omega (arith, ints); left = λ _ _. h }

pub spans_row : (x y : ℤ) (n w : ℕ) → pos w ≤ℤ (x +ℤ pos n) → Spans (record { x = x; y = y; width = n; height = 1 }) y 1 x w
spans_row x y n w h = record { top = refl; rows = refl; left = refl; right = h }

-- one rectangle over another that may be narrower
pub spans_over : (a b : Rect) (y : ℤ) (n m : ℕ) (l k : ℤ) (w u : ℕ) → 0 < n → 0 < m → l <ℤ pos w → k <ℤ pos u
    → Spans a y n l w → Spans b (y +ℤ pos n) m k u → Spans (join a b) y (n + m) (int_min l k) w
spans_over a b y n m l k w u some any wide wide' ha hb =
    let p = spans_not_empty a y n l w some wide ha in
    let q = spans_not_empty b (y +ℤ pos n) m k u any wide' hb in
    let ex = join-x a b p q in
    let ey = join-y a b p q in
    let fx = join-end_x a b p q in
    let fy = join-end_y a b p q in
    record {
      top = rw (ey, ha.top, hb.top) (omega (arith, ints, clamps));
      rows = omega (arith, ints, clamps, ey, fy, ha.top, hb.top, ha.rows, hb.rows);
      left = rw (ex, ha.left, hb.left) refl;
      right = rw fx (omega (arith, ints, clamps, ha.right));
    }
