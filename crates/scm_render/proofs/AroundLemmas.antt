use Rattle.std.proofs.Common.{refl, sym, ap, ◌∙◌, arith}
use Rattle.std.specs.Prelude.{◌≡◌, ℕ, ◌<◌, ℤ, pos, ◌+ℤ◌, ◌-ℤ◌, List, [], ◌∷◌, ◌++◌, Bool, true, false}
use Rattle.std.specs.Int.{int_min, int_max}
use Rattle.std.proofs.lemmas.Bool.Decides.{nat_tests}
use Rattle.std.proofs.lemmas.List.Sums.{fold-append}
use Rattle.scm_cells.specs.Rect.{RectInRange, is_empty, rect_between, end_x_of, end_y_of, or_zero, InRange}
use Rattle.scm_cells.proofs.RectLemmas.{rect_between-same, places, RectInRange-union, RectInRange-if}
use Rattle.scm_cells.specs.declared.rect.Rect.{Rect}
use Rattle.scm_render.specs.Around.{no_rect, join, around, AllRectsInRange}

pub no_rect-from : (r : Rect) → r.x ≡ pos 0 → r.y ≡ pos 0 → r.width ≡ 0 → r.height ≡ 0 → r ≡ no_rect
no_rect-from r p q w h = let e : ◌≡◌ {A = Rect} (record { x = r.x; y = r.y; width = r.width; height = r.height }) no_rect = cc in e

pub around-append : (r : Rect) (xs ys : List Rect) → around r (xs ++ ys) ≡ around (around r xs) ys
unfolding around
around-append r xs ys = fold-append join r xs ys

pub around-none : (r : Rect) → around r [] ≡ r
unfolding around
around-none r = refl

pub around-one : (r x : Rect) → around r (x ∷ []) ≡ join r x
unfolding around
around-one r x = refl

pub RectInRange-join : (a b : Rect) → RectInRange a → RectInRange b → RectInRange (join a b)
unfolding join
RectInRange-join a b p q = RectInRange-if _ _ _ p (RectInRange-union a b p q)

pub RectInRange-around : (r : Rect) (xs : List Rect) → RectInRange r → AllRectsInRange xs → RectInRange (around r xs)
unfolding around
RectInRange-around r [] p q = p
RectInRange-around r (x ∷ xs) p q = RectInRange-around (join r x) xs (RectInRange-join r x p q.0) q.1

pub AllRectsInRange-append : (xs ys : List Rect) → AllRectsInRange xs → AllRectsInRange ys → AllRectsInRange (xs ++ ys)
AllRectsInRange-append [] ys p q = q
AllRectsInRange-append (x ∷ xs) ys p q = (p.0, AllRectsInRange-append xs ys p.1 q)

pub AllRectsInRange-left : (xs ys : List Rect) → AllRectsInRange (xs ++ ys) → AllRectsInRange xs
AllRectsInRange-left [] ys p = tt
AllRectsInRange-left (x ∷ xs) ys p = (p.0, AllRectsInRange-left xs ys p.1)

pub AllRectsInRange-right : (xs ys : List Rect) → AllRectsInRange (xs ++ ys) → AllRectsInRange ys
AllRectsInRange-right [] ys p = p
AllRectsInRange-right (x ∷ xs) ys p = AllRectsInRange-right xs ys p.1

pub RectInRange-no_rect : RectInRange no_rect
RectInRange-no_rect =
    let i : InRange (pos 0) = record { low = omega (arith, places); high = omega (arith, places) } in
    record { x = i; end_x = i; y = i; end_y = i }

-- ---- a chain of joins may be cut anywhere

pub join-empty : (a b : Rect) → is_empty b ≡ true → join a b ≡ a
unfolding join
join-empty a b e = rw e refl

pub join-from_empty : (a b : Rect) → is_empty a ≡ true → is_empty b ≡ false → join a b ≡ b
unfolding join
join-from_empty a b e f = rw (f, e) refl

-- two that are not empty
both : Rect → Rect → Rect
both a b = rect_between (int_min a.x b.x) (int_min a.y b.y) (int_max (end_x_of a) (end_x_of b)) (int_max (end_y_of a) (end_y_of b))

join-both : (a b : Rect) → is_empty a ≡ false → is_empty b ≡ false → join a b ≡ both a b
unfolding join both
join-both a b e f = rw (f, e) refl

is_empty-out : (a : Rect) → is_empty a ≡ false → (0 < a.width) × (0 < a.height)
is_empty-out a e = (grind (arith, nat_tests), grind (arith, nat_tests))

pub is_empty-in : (a : Rect) → 0 < a.width → 0 < a.height → is_empty a ≡ false
is_empty-in a p q = grind (arith, nat_tests)

side-grows : (x z : ℤ) (n m : ℕ) → 0 < n → 0 < or_zero (int_max (x +ℤ pos n) (z +ℤ pos m) -ℤ int_min x z)
side-grows x z n m p = omega (arith, places)

side-end : (x z : ℤ) (n m : ℕ) → 0 < n → int_min x z +ℤ pos (or_zero (int_max (x +ℤ pos n) (z +ℤ pos m) -ℤ int_min x z)) ≡ int_max (x +ℤ pos n) (z +ℤ pos m)
side-end x z n m p = omega (arith, places)

both-full : (a b : Rect) → is_empty a ≡ false → is_empty (both a b) ≡ false
unfolding both rect_between
both-full a b e =
    let f = is_empty-out a e in
    is_empty-in (both a b) (side-grows a.x b.x a.width b.width f.0) (side-grows a.y b.y a.height b.height f.1)

both-end_x : (a b : Rect) → is_empty a ≡ false → end_x_of (both a b) ≡ int_max (end_x_of a) (end_x_of b)
unfolding both rect_between
both-end_x a b e = let f = is_empty-out a e in side-end a.x b.x a.width b.width f.0

both-end_y : (a b : Rect) → is_empty a ≡ false → end_y_of (both a b) ≡ int_max (end_y_of a) (end_y_of b)
unfolding both rect_between
both-end_y a b e = let f = is_empty-out a e in side-end a.y b.y a.height b.height f.1

both-x : (a b : Rect) → (both a b).x ≡ int_min a.x b.x
unfolding both rect_between
both-x a b = refl

both-y : (a b : Rect) → (both a b).y ≡ int_min a.y b.y
unfolding both rect_between
both-y a b = refl

int_min-assoc : (a b c : ℤ) → int_min (int_min a b) c ≡ int_min a (int_min b c)
int_min-assoc a b c = omega (arith, places)

int_max-assoc : (a b c : ℤ) → int_max (int_max a b) c ≡ int_max a (int_max b c)
int_max-assoc a b c = omega (arith, places)

both-assoc : (a b c : Rect) → is_empty a ≡ false → is_empty b ≡ false → is_empty c ≡ false → both (both a b) c ≡ both a (both b c)
unfolding both
both-assoc a b c p q r =
    rect_between-same _ _ _ _ _ _ _ _
    (ap (λ v. int_min v c.x) (both-x a b) ∙ int_min-assoc a.x b.x c.x ∙ ap (int_min a.x) (sym (both-x b c)))
    (ap (λ v. int_min v c.y) (both-y a b) ∙ int_min-assoc a.y b.y c.y ∙ ap (int_min a.y) (sym (both-y b c)))
    (ap (λ v. int_max v (end_x_of c)) (both-end_x a b p) ∙ int_max-assoc (end_x_of a) (end_x_of b) (end_x_of c) ∙ ap (int_max (end_x_of a)) (sym (both-end_x b c q)))
    (ap (λ v. int_max v (end_y_of c)) (both-end_y a b p) ∙ int_max-assoc (end_y_of a) (end_y_of b) (end_y_of c) ∙ ap (int_max (end_y_of a)) (sym (both-end_y b c q)))

-- by whether each is empty
assoc-by : (v a b : Rect) (ev ea eb : Bool) → is_empty v ≡ ev → is_empty a ≡ ea → is_empty b ≡ eb → join (join v a) b ≡ join v (join a b)
assoc-by v a b ev ea true p q r = join-empty _ b r ∙ ap (join v) (sym (join-empty a b r))
assoc-by v a b ev true false p q r = ap (λ w. join w b) (join-empty v a q) ∙ ap (join v) (sym (join-from_empty a b q r))
assoc-by v a b true false false p q r =
    let ab = join-both a b q r in
    let full : is_empty (join a b) ≡ false = ap is_empty ab ∙ both-full a b q in
    ap (λ w. join w b) (join-from_empty v a p q) ∙ sym (join-from_empty v (join a b) p full)
assoc-by v a b false false false p q r =
    ap (λ w. join w b) (join-both v a p q) ∙ join-both (both v a) b (both-full v a p) r
    ∙ both-assoc v a b p q r
    ∙ sym (ap (join v) (join-both a b q r) ∙ join-both v (both a b) p (both-full a b q))

pub join-assoc : (v a b : Rect) → join (join v a) b ≡ join v (join a b)
join-assoc v a b = assoc-by v a b (is_empty v) (is_empty a) (is_empty b) refl refl refl

join-no_rect-by : (r a : Rect) (e : Bool) → is_empty a ≡ e → join r (join no_rect a) ≡ join r a
join-no_rect-by r a true p = ap (join r) (join-empty no_rect a p) ∙ join-empty r no_rect refl ∙ sym (join-empty r a p)
join-no_rect-by r a false p = ap (join r) (join-from_empty no_rect a refl p)

-- to grow by all of them is to grow by the least around them
pub around-join : (r : Rect) (xs : List Rect) → around r xs ≡ join r (around no_rect xs)
unfolding around
around-join r [] = sym (join-empty r no_rect refl)
around-join r (x ∷ xs) =
    let rest = around no_rect xs in
    around-join (join r x) xs ∙ join-assoc r x rest
    ∙ sym (ap (join r) (around-join (join no_rect x) xs ∙ join-assoc no_rect x rest) ∙ join-no_rect-by r (join x rest) (is_empty (join x rest)) refl)
