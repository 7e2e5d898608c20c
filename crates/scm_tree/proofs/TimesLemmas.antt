-- How often a path is in a list.
use Rattle.std.proofs.Common.{◌≡◌, ℕ, suc, ◌+◌, ◌<◌, ◌≤◌, List, [], ◌∷◌, ◌++◌, take, get_or, Bool, true, false, ◌&&◌, Option, refl, arith, sym, ◌∙◌, ap}
use Rattle.std.specs.Prelude.{is_some, nat_eq}
use Rattle.std.specs.Cmp.Lexicographic.{pointwise, same_text}
use Rattle.std.specs.List.{All, AllPairs}
use Rattle.std.proofs.lemmas.Bool.{and_parts, false≢true}
use Rattle.std.proofs.lemmas.Cmp.{nat_list_eq_equiv}
use Rattle.std.proofs.lemmas.List.Sums.{sum_by-take-le}
use Rattle.scm_tree.specs.Paths.{is_before}
use Rattle.scm_tree.proofs.PathLemmas.{before_self}
use Rattle.scm_tree.specs.Holds.{is_at, times}
use Rattle.scm_tree.proofs.HoldsLemmas.{one_at, one_if, times_cons, times_push}

-- an element that has a value at the path counts once
pub one_there : {X V : Type 0} (path : X → List ℕ) (at : X → Option V) (x : X) (p : List ℕ) → p ≡ path x → is_some (at x) ≡ true → one_at path at p x ≡ 1
one_there path at x p e f =
    ap (λ (q : List ℕ). one_if (pointwise nat_eq q (path x) && is_some (at x))) e
    ∙ ap (λ (t : Bool). one_if (t && is_some (at x))) (nat_list_eq_equiv.refl (path x))
    ∙ ap (λ (t : Bool). one_if t) f

-- an element of another path does not count
one_by : {X V : Type 0} (path : X → List ℕ) (at : X → Option V) (x : X) (p : List ℕ) (t : Bool) → t ≡ pointwise nat_eq p (path x) → (path x ≡ p → ⊥) → one_if (t && is_some (at x)) ≡ 0
one_by path at x p false e n = refl
one_by path at x p true e n = absurd (n (sym (same_text p (path x) e)))

one_other : {X V : Type 0} (path : X → List ℕ) (at : X → Option V) (x : X) (p : List ℕ) → (path x ≡ p → ⊥) → one_at path at p x ≡ 0
one_other path at x p n = one_by path at x p (pointwise nat_eq p (path x)) refl n

at_most_one : (t : Bool) → one_if t ≤ 1
at_most_one true = omega arith
at_most_one false = omega arith

none_more : (a b c : ℕ) → a ≡ b + c → b ≡ 0 → c ≡ 0 → a ≡ 0
none_more a b c h i j = omega arith

times_none : {X V : Type 0} (path : X → List ℕ) (at : X → Option V) (xs : List X) (p : List ℕ) → All (λ (x : X). path x ≡ p → ⊥) xs → times path at xs p ≡ 0
times_none path at [] p n = refl
times_none path at (x ∷ xs) p n =
    none_more (times path at (x ∷ xs) p) (one_at path at p x) (times path at xs p) (times_cons path at x xs p)
    (one_other path at x p (n 0 x (omega arith))) (times_none path at xs p (λ k d h. n (suc k) d (omega arith)))

abbrev InOrder : {X : Type 0} → (X → List ℕ) → List X → Type 0
InOrder {X} path xs = AllPairs (λ (x y : X). is_before (path x) (path y) ≡ true) xs

apart : (p q : List ℕ) → p ≡ q → is_before p q ≡ true → ⊥
apart p q e b = false≢true (sym (before_self q) ∙ ap (λ (x : List ℕ). is_before x q) (sym e) ∙ b)

one_and_none : (a b c : ℕ) → a ≡ b + c → b ≤ 1 → c ≡ 0 → a ≤ 1
one_and_none a b c h i j = omega arith

none_and_one : (a b c : ℕ) → a ≡ b + c → b ≡ 0 → c ≤ 1 → a ≤ 1
none_and_one a b c h i j = omega arith

first_or_other : {X V : Type 0} (path : X → List ℕ) (at : X → Option V) (x : X) (xs : List X) (p : List ℕ) (t : Bool) → t ≡ pointwise nat_eq p (path x) → InOrder path (x ∷ xs) → times path at xs p ≤ 1 → times path at (x ∷ xs) p ≤ 1
first_or_other path at x xs p true e o h =
    one_and_none (times path at (x ∷ xs) p) (one_at path at p x) (times path at xs p) (times_cons path at x xs p) (at_most_one (is_at path at p x))
    (times_none path at xs p (λ k d m f. apart (path x) (path (get_or xs k d)) (sym (same_text p (path x) e) ∙ sym f) (o 0 (suc k) d (omega arith) (omega arith))))
first_or_other path at x xs p false e o h =
    none_and_one (times path at (x ∷ xs) p) (one_at path at p x) (times path at xs p) (times_cons path at x xs p)
    (ap (λ (t : Bool). one_if (t && is_some (at x))) (sym e)) h

-- a list in the order of paths has each path at most once
pub times_in_order : {X V : Type 0} (path : X → List ℕ) (at : X → Option V) (xs : List X) (p : List ℕ) → AllPairs (λ (x y : X). is_before (path x) (path y) ≡ true) xs → times path at xs p ≤ 1
times_in_order path at [] p o = omega arith
times_in_order path at (x ∷ xs) p o =
    first_or_other path at x xs p (pointwise nat_eq p (path x)) refl o
    (times_in_order path at xs p (λ i j d h k. o (suc i) (suc j) d (omega arith) (omega arith)))

two : (a b c d e f g : ℕ) → a ≡ b + c → b ≡ d → d ≡ e + f → f ≡ 1 → c ≡ 1 → a ≤ g → 1 < g
two a b c d e f g h i j k l m = omega arith

-- the last element has the path, and so has one that comes
pub two_there : {X V : Type 0} (path : X → List ℕ) (at : X → Option V) (xs first : List X) (last y : X) (i : ℕ) (p : List ℕ) → take (i + 1) xs ≡ take i xs ++ y ∷ [] → times path at (first ++ last ∷ []) p ≡ times path at (take i xs) p → p ≡ path last → p ≡ path y → (is_some (at last) && is_some (at y)) ≡ true → 1 < times path at xs p
two_there {X = X} path at xs first last y i p t s e f both =
    let parts = and_parts (is_some (at last)) (is_some (at y)) both in
    two (times path at (take (i + 1) xs) p) (times path at (take i xs) p) (one_at path at p y) (times path at (first ++ last ∷ []) p) (times path at first p) (one_at path at p last) (times path at xs p)
    (ap (λ (ys : List X). times path at ys p) t ∙ times_push path at (take i xs) y p) (sym s) (times_push path at first last p)
    (one_there path at last p e parts.0) (one_there path at y p f parts.1) (sum_by-take-le (one_at path at p) xs (i + 1))
