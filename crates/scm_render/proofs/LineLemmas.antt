-- Values on consecutive rows.
use Rattle.std.proofs.Common.{◌≡◌, ℕ, ◌+◌, List, [], ◌∷◌, ◌++◌, length, get_or, map, refl, ap, arith, cond, true, false, Bool, ◌⊎◌, ◌∙◌, inl, inr}
use Rattle.std.specs.Prelude.{ℤ, pos, ◌+ℤ◌, ◌<ℤ◌, ◌≤ℤ◌, zero, suc}
use Rattle.std.specs.Ordering.{int_eq}
use Rattle.std.proofs.lemmas.Bool.Decides.{Decides-int_eq}
use Rattle.std.proofs.lemmas.Int.{ints}
use Rattle.scm_render.specs.Lines.{line}

-- equal branches, where the other one is the same
pub cond_else : {M : Type 0} (b : Bool) (m x y : M) → (b ≡ false → x ≡ y) → cond b m x ≡ cond b m y
cond_else true m x y e = refl
cond_else false m x y e = e refl

pub z_cases : (a b : ℤ) → (a <ℤ b) ⊎ (b ≤ℤ a)
z_cases a b = grind (arith, ints)

pub line-below : {M : Type 0} (u : M) (ms : List M) (y z : ℤ) → z <ℤ y → line u ms y z ≡ u
unfolding line
line-below u [] y z h = refl
line-below u (m ∷ ms) y z h =
    let differ : int_eq z y ≡ false = grind (arith, ints, Decides-int_eq z y) in
    rw differ (line-below u ms (y +ℤ pos 1) z (omega (arith, ints)))

pub line-above : {M : Type 0} (u : M) (ms : List M) (y z : ℤ) → (y +ℤ pos (length ms)) ≤ℤ z → line u ms y z ≡ u
unfolding line
line-above u [] y z h = refl
line-above u (m ∷ ms) y z h =
    let differ : int_eq z y ≡ false = grind (arith, ints, Decides-int_eq z y) in
    rw differ (line-above u ms (y +ℤ pos 1) z (omega (arith, ints)))

pub line-left : {M : Type 0} (u : M) (ms ns : List M) (y z : ℤ) → z <ℤ (y +ℤ pos (length ms)) → line u (ms ++ ns) y z ≡ line u ms y z
unfolding line
line-left u [] ns y z h = line-below u ns y z (omega (arith, ints))
line-left u (m ∷ ms) ns y z h =
    cond_else (int_eq z y) m _ _ (λ e. line-left u ms ns (y +ℤ pos 1) z (omega (arith, ints)))

pub line-right : {M : Type 0} (u : M) (ms ns : List M) (y z : ℤ) → (y +ℤ pos (length ms)) ≤ℤ z → line u (ms ++ ns) y z ≡ line u ns (y +ℤ pos (length ms)) z
unfolding line
line-right u [] ns y z h = ap (λ k. line u ns k z) (omega (arith, ints))
line-right u (m ∷ ms) ns y z h =
    let differ : int_eq z y ≡ false = grind (arith, ints, Decides-int_eq z y) in
    rw differ (line-right u ms ns (y +ℤ pos 1) z (omega (arith, ints)) ∙ ap (λ k. line u ns k z) (omega (arith, ints)))

-- two lists, one below the other, as one operation with unit u
pub line-append : {M : Type 0} (u : M) (op : M → M → M) → ((m : M) → op u m ≡ m) → ((m : M) → op m u ≡ m)
    → (ms ns : List M) (y z : ℤ) → op (line u ms y z) (line u ns (y +ℤ pos (length ms)) z) ≡ line u (ms ++ ns) y z
line-append u op left right ms ns y z = split (z_cases z (y +ℤ pos (length ms)))
  where
    split : (z <ℤ (y +ℤ pos (length ms))) ⊎ ((y +ℤ pos (length ms)) ≤ℤ z) → op (line u ms y z) (line u ns (y +ℤ pos (length ms)) z) ≡ line u (ms ++ ns) y z
    split = elim [ inl h ↦ rw (line-below u ns (y +ℤ pos (length ms)) z h, line-left u ms ns y z h) (right _) | inr h ↦ rw (line-above u ms y z h, line-right u ms ns y z h) (left _) ]

map_cond : {M N : Type 0} (f : M → N) (b : Bool) (m x : M) (y : N) → y ≡ f x → cond b (f m) y ≡ f (cond b m x)
map_cond f true m x y e = refl
map_cond f false m x y e = e

pub line-map : {M N : Type 0} (f : M → N) (u : M) (ms : List M) (y z : ℤ) → line (f u) (map f ms) y z ≡ f (line u ms y z)
unfolding line
line-map f u [] y z = refl
line-map f u (m ∷ ms) y z = map_cond f (int_eq z y) m _ _ (line-map f u ms (y +ℤ pos 1) z)

pub line-get : {M : Type 0} (u : M) (ms : List M) (y k : ℕ) → line u ms (pos y) (pos (y + k)) ≡ get_or ms k u
unfolding line
line-get u [] y k = refl
line-get u (m ∷ ms) y zero =
    let same : int_eq (pos (y + 0)) (pos y) ≡ true = grind (arith, ints, Decides-int_eq (pos (y + 0)) (pos y)) in
    rw same refl
line-get u (m ∷ ms) y (suc k) =
    let differ : int_eq (pos (y + suc k)) (pos y) ≡ false = grind (arith, ints, Decides-int_eq (pos (y + suc k)) (pos y)) in
    let shift : y + suc k ≡ (y + 1) + k = omega arith in
    rw differ (rw shift (line-get u ms (y + 1) k))
