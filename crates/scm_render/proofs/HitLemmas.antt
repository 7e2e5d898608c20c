-- Who owns a point, by the boxes of parts that were drawn one after another.
use Rattle.std.proofs.Common.{◌≡◌, ℕ, List, [], ◌∷◌, ◌++◌, refl, ap, cond, true, false, Bool, ◌∙◌, sym}
use Rattle.std.specs.Prelude.{ℤ, ◌&&◌, ◌||◌, Option, Some, None}
use Rattle.scm_render.specs.Picture.{Box}
use Rattle.scm_render.specs.Hits.{holds, has_id, first_of_two, hit}

or_false : (b : Bool) → (b || false) ≡ b
or_false true = refl
or_false false = refl

or_assoc : (a b c : Bool) → (a || (b || c)) ≡ ((a || c) || b)
or_assoc true b c = refl
or_assoc false true true = refl
or_assoc false true false = refl
or_assoc false false c = sym (or_false c)

pub not_true : (b : Bool) → (b ≡ true → ⊥) → b ≡ false
not_true true h = absurd (h refl)
not_true false h = refl

module _ {K : Type 0} where
  -- of each box's id
  abbrev pub Each : (K → Type 0) → List (Box K) → Type 0
  Each P [] = Unit {0}
  Each P (b ∷ bs) = P b.0 × Each P bs

  pub each-append : (P : K → Type 0) (cs bs : List (Box K)) → Each P cs → Each P bs → Each P (cs ++ bs)
  each-append P [] bs h k = k
  each-append P (a ∷ cs) bs h k = (h.0, each-append P cs bs h.1 k)

  pub each_more : (P Q : K → Type 0) (cs : List (Box K)) → ((i : K) → P i → Q i) → Each P cs → Each Q cs
  each_more P Q [] f h = tt
  each_more P Q (a ∷ cs) f h = (f a.0 h.0, each_more P Q cs f h.1)

  pub two_none : (o : Option K) → first_of_two o None ≡ o
  two_none (Some i) = refl
  two_none None = refl

  pub two_assoc : (a b c : Option K) → first_of_two (first_of_two a b) c ≡ first_of_two a (first_of_two b c)
  two_assoc (Some i) b c = refl
  two_assoc None b c = refl

module _ {K : Type 0} (same_id : K → K → Bool) (is_clickable : K → Bool) where
  pub has-append : (i : K) (cs bs : List (Box K)) → has_id same_id i (cs ++ bs) ≡ (has_id same_id i cs || has_id same_id i bs)
  unfolding has_id
  has-append i [] bs = refl
  has-append i (a ∷ cs) bs = go (same_id i a.0) (has-append i cs bs)
    where
      go : (t : Bool) → has_id same_id i (cs ++ bs) ≡ (has_id same_id i cs || has_id same_id i bs) → (t || has_id same_id i (cs ++ bs)) ≡ ((t || has_id same_id i cs) || has_id same_id i bs)
      go true e = refl
      go false e = e

  pub hit_same : (rep other : K → Bool) (cs : List (Box K)) (y x : ℤ) → Each (λ i. rep i ≡ other i) cs → hit same_id is_clickable rep cs y x ≡ hit same_id is_clickable other cs y x
  unfolding hit
  hit_same rep other [] y x h = refl
  hit_same rep other (a ∷ cs) y x h = rw (h.0, hit_same rep other cs y x h.1) refl

  pub hit-append : (rep : K → Bool) (cs bs : List (Box K)) (y x : ℤ) → hit same_id is_clickable rep (cs ++ bs) y x ≡ first_of_two (hit same_id is_clickable rep bs y x) (hit same_id is_clickable (λ i. rep i || has_id same_id i bs) cs y x)
  unfolding hit
  hit-append rep [] bs y x = sym (two_none (hit same_id is_clickable rep bs y x))
  hit-append rep (a ∷ cs) bs y x =
      rw (has-append a.0 cs bs, or_assoc (rep a.0) (has_id same_id a.0 cs) (has_id same_id a.0 bs), hit-append rep cs bs y x)
      (two_assoc (hit same_id is_clickable rep bs y x) (hit same_id is_clickable (λ i. rep i || has_id same_id i bs) cs y x) _)

  pub hit_apart : (rep : K → Bool) (cs bs : List (Box K)) (y x : ℤ) → Each (λ i. has_id same_id i bs ≡ false) cs → hit same_id is_clickable rep (cs ++ bs) y x ≡ first_of_two (hit same_id is_clickable rep bs y x) (hit same_id is_clickable rep cs y x)
  hit_apart rep cs bs y x h = hit-append rep cs bs y x ∙ ap (first_of_two (hit same_id is_clickable rep bs y x)) (hit_same (λ i. rep i || has_id same_id i bs) rep cs y x (each_more (λ i. has_id same_id i bs ≡ false) (λ i. (rep i || has_id same_id i bs) ≡ rep i) cs (λ i e. rw e (or_false (rep i))) h))

  -- a box whose id no later box has
  pub hit_box : (rep : K → Bool) (b : Box K) (bs : List (Box K)) (y x : ℤ) → is_clickable b.0 ≡ true → rep b.0 ≡ false → has_id same_id b.0 bs ≡ false
      → hit same_id is_clickable rep (b ∷ bs) y x ≡ first_of_two (hit same_id is_clickable rep bs y x) (cond (holds b.1 y x) (Some b.0) None)
  unfolding hit
  hit_box rep b bs y x c r h = rw (c, r, h) refl

  pub hit_replaced : (rep : K → Bool) (b : Box K) (bs : List (Box K)) (y x : ℤ) → rep b.0 ≡ true
      → hit same_id is_clickable rep (b ∷ bs) y x ≡ hit same_id is_clickable rep bs y x
  unfolding hit
  hit_replaced rep b bs y x r = rw r (go (is_clickable b.0))
    where
      go : (c : Bool) → first_of_two (hit same_id is_clickable rep bs y x) (cond (c && false) (Some b.0) None) ≡ hit same_id is_clickable rep bs y x
      go true = two_none _
      go false = two_none _

  pub none_there : (f : K → ℕ) → ((i j : K) → same_id i j ≡ true → f i ≡ f j) → (P Q : K → Type 0) → ((i j : K) → P i → Q j → f i ≡ f j → ⊥) → (i : K) → P i → (bs : List (Box K)) → Each Q bs → has_id same_id i bs ≡ false
  unfolding has_id
  none_there f same P Q differ i p [] k = refl
  none_there f same P Q differ i p (b ∷ bs) k =
      let here : same_id i b.0 ≡ false = not_true (same_id i b.0) (λ e. differ i b.0 p k.0 (same i b.0 e)) in
      rw here (none_there f same P Q differ i p bs k.1)

  -- ids apart by a number of theirs
  pub apart : (f : K → ℕ) → ((i j : K) → same_id i j ≡ true → f i ≡ f j) → (P Q : K → Type 0) → ((i j : K) → P i → Q j → f i ≡ f j → ⊥) → (cs bs : List (Box K)) → Each P cs → Each Q bs → Each (λ i. has_id same_id i bs ≡ false) cs
  apart f same P Q differ [] bs h k = tt
  apart f same P Q differ (a ∷ cs) bs h k = (not_there a.0 h.0 bs k, apart f same P Q differ cs bs h.1 k)
    where
      not_there : (i : K) → P i → (bs : List (Box K)) → Each Q bs → has_id same_id i bs ≡ false
      not_there i p bs k = none_there f same P Q differ i p bs k

  -- a box that no click acts on
  pub hit_still : (rep : K → Bool) (b : Box K) (bs : List (Box K)) (y x : ℤ) → is_clickable b.0 ≡ false → hit same_id is_clickable rep (b ∷ bs) y x ≡ hit same_id is_clickable rep bs y x
  unfolding hit
  hit_still rep b bs y x c = rw c (two_none (hit same_id is_clickable rep bs y x))
