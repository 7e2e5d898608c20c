-- The part of a rectangle that is on the screen.
use Rattle.std.proofs.Common.{◌≡◌, ℕ, ◌<◌, ◌^◌, refl, sym, ap, ◌∙◌, arith, true, false}
use Rattle.std.specs.Prelude.{Some, None}
use Rattle.scm_render.specs.Places.{screen_part, on_screen}
use Rattle.std.specs.Prelude.{ℤ, pos, ◌+ℤ◌, ◌-ℤ◌, ◌≤ℤ◌}
use Rattle.std.specs.Int.{int_min, int_max}
use Rattle.std.proofs.lemmas.Bool.Decides.{nat_tests}
use Rattle.scm_cells.specs.Rect.{is_empty, intersect_of, rect_between, or_zero, end_x_of, end_y_of}
use Rattle.scm_cells.specs.declared.rect.Rect.{Rect}
use Rattle.scm_cells.proofs.RectLemmas.{places}

one_way : (a b ea eb : ℤ) (n : ℕ) → n ≡ or_zero (int_min ea eb -ℤ int_max a b) → 0 < n → (a ≤ℤ int_max a b) × ((int_max a b +ℤ pos n) ≤ℤ ea)
one_way a b ea eb n e p = (omega (arith, places), omega (arith, places))

-- a part with a cell lies on the screen
pub record OnScreen (v p : Rect) : Type 0 where
  pub left : v.x ≤ℤ p.x
  pub right : end_x_of p ≤ℤ end_x_of v
  pub top : v.y ≤ℤ p.y
  pub bottom : end_y_of p ≤ℤ end_y_of v

pub OnScreen-part : (v r : Rect) → is_empty (intersect_of v r) ≡ false → OnScreen v (intersect_of v r)
unfolding rect_between
OnScreen-part v r e =
    let w : 0 < (intersect_of v r).width = grind (arith, nat_tests) in
    let h : 0 < (intersect_of v r).height = grind (arith, nat_tests) in
    let a = one_way v.x r.x (end_x_of v) (end_x_of r) _ refl w in
    let b = one_way v.y r.y (end_y_of v) (end_y_of r) _ refl h in
    record { left = a.0; right = a.1; top = b.0; bottom = b.1 }

-- a part of the screen is small
pub record IsSmall (v p : Rect) : Type 0 where
  pub left : v.x ≤ℤ p.x
  pub top : v.y ≤ℤ p.y
  pub x : or_zero (p.x -ℤ v.x) < 2 ^ 16
  pub y : or_zero (p.y -ℤ v.y) < 2 ^ 16
  pub width : p.width < 2 ^ 16
  pub height : p.height < 2 ^ 16

pub IsSmall-part : (v r p : Rect) → v.width < 2 ^ 16 → v.height < 2 ^ 16 → p ≡ intersect_of v r → false ≡ is_empty p → IsSmall v p
IsSmall-part v r p w h e f =
    let full : is_empty (intersect_of v r) ≡ false = ap is_empty (sym e) ∙ sym f in
    let o = rw (sym e) at (OnScreen-part v r full) in
    record {
      left = o.left;
      top = o.top;
      x = omega (arith, places, o.left, o.right);
      y = omega (arith, places, o.top, o.bottom);
      width = omega (arith, places, o.left, o.right);
      height = omega (arith, places, o.top, o.bottom);
    }

pub translated-some : (v w r p : Rect) (x y : ℕ) → v ≡ w → p ≡ intersect_of v r → false ≡ is_empty p → x ≡ or_zero (p.x -ℤ v.x) → y ≡ or_zero (p.y -ℤ v.y)
    → Some (record { x = x; y = y; width = p.width; height = p.height }) ≡ screen_part w r
unfolding screen_part
translated-some v w r p x y k e f a b =
    let full : is_empty (intersect_of v r) ≡ false = ap is_empty (sym e) ∙ sym f in
    rw (sym k, full, a, b) (ap (λ q. Some (on_screen v q)) e)

pub translated-none : (v w r p : Rect) → v ≡ w → p ≡ intersect_of v r → true ≡ is_empty p → None ≡ screen_part w r
unfolding screen_part
translated-none v w r p k e f =
    let none : is_empty (intersect_of v r) ≡ true = ap is_empty (sym e) ∙ sym f in
    rw (sym k, none) refl
