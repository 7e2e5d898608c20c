-- Lists that have the same values at each path.
use Rattle.std.proofs.Common.{◌≡◌, ℕ, suc, ◌+◌, ◌<◌, List, [], ◌∷◌, ◌++◌, length, get_or, Bool, true, false, ◌&&◌, cond, Option, Some, None, refl, arith, sym, subst, ◌∙◌, ap, ◌⊎◌, inl, inr}
use Rattle.std.specs.Prelude.{is_some, nat_eq}
use Rattle.std.specs.Cmp.Lexicographic.{pointwise}
use Rattle.std.specs.Option.{option_or}
use Rattle.std.specs.List.{All}
use Rattle.std.specs.List.Sorted.{IsPermutation}
use Rattle.std.proofs.Math.ListN.{get_or-append}
use Rattle.std.proofs.Math.Seq.{get_or-append_seam}
use Rattle.std.proofs.lemmas.Bool.{true≢false}
use Rattle.std.proofs.lemmas.List.{length-append}
use Rattle.std.proofs.lemmas.List.Elements.{Contains-append_left, Contains-get_or, Contains-push, Contains-push_cases}
use Rattle.std.proofs.lemmas.List.Sorted.{Contains-permutation, IsPermutation-sym, sum_by-IsPermutation}
use Rattle.std.proofs.lemmas.List.Sums.{sum_by-cons, sum_by_push}
use Rattle.scm_tree.specs.Holds.{HaveSame, Holds, is_at, times}

pub none_some : {V : Type 0} (v : V) → None ≡ Some v → ⊥
none_some v e = cc

-- an element of a list that is not empty
pub some_of : {X : Type 0} (xs : List X) (i : ℕ) → i < length xs → X
some_of [] i h = absurd (omega arith)
some_of (x ∷ xs) i h = x

-- what holds of each element and of the last one
pub all_first : {X : Type 0} (P : X → Type 0) (xs : List X) (y : X) → All P (xs ++ y ∷ []) → All P xs
all_first P xs y h = λ k d m. let l = length-append xs (y ∷ []) in let n : k < length (xs ++ y ∷ []) = omega arith in subst P (get_or-append xs (y ∷ []) d k m) (h k d n)

pub all_last : {X : Type 0} (P : X → Type 0) (xs : List X) (y : X) → All P (xs ++ y ∷ []) → P y
all_last P xs y h = let l = length-append xs (y ∷ []) in let n : length xs < length (xs ++ y ∷ []) = omega arith in subst P (get_or-append_seam xs y [] y) (h (length xs) y n)

-- ---- a value more

pub holds_nothing : {X V : Type 0} (path : X → List ℕ) (at : X → Option V) (p : List ℕ) (v : V) → Holds path at [] p v → ⊥
holds_nothing path at p v h = let k : h.1.0.0 < 0 = h.1.0.1 in omega arith

holds_cases : {X V : Type 0} (path : X → List ℕ) (at : X → Option V) (xs : List X) (y : X) (p : List ℕ) (v : V) → Holds path at (xs ++ y ∷ []) p v → Holds path at xs p v ⊎ ((path y ≡ p) × (at y ≡ Some v))
holds_cases path at xs y p v h = elim (Contains-push_cases xs y h.0 h.1.0) [
  | inl c ↦ inl (h.0, (c, h.1.1, h.1.2))
  | inr e ↦ inr (ap path e ∙ h.1.1, ap at e ∙ h.1.2)
]

holds_old : {X V : Type 0} (path : X → List ℕ) (at : X → Option V) (xs : List X) (y : X) (p : List ℕ) (v : V) → Holds path at xs p v → Holds path at (xs ++ y ∷ []) p v
holds_old path at xs y p v h = (h.0, (Contains-append_left xs (y ∷ []) h.0 h.1.0, h.1.1, h.1.2))

holds_new : {X V : Type 0} (path : X → List ℕ) (at : X → Option V) (xs : List X) (y : X) (p : List ℕ) (v : V) → path y ≡ p → at y ≡ Some v → Holds path at (xs ++ y ∷ []) p v
holds_new path at xs y p v e f = (y, (Contains-push xs y, e, f))

holds_moved : {X V : Type 0} (path : X → List ℕ) (at : X → Option V) (xs ys : List X) (p : List ℕ) (v : V) → IsPermutation xs ys → Holds path at xs p v → Holds path at ys p v
holds_moved path at xs ys p v m h = (h.0, (Contains-permutation xs ys h.0 m h.1.0, h.1.1, h.1.2))

-- ---- how often a path is there

abbrev pub one_if : Bool → ℕ
one_if t = cond t 1 0

abbrev pub one_at : {X V : Type 0} → (X → List ℕ) → (X → Option V) → List ℕ → X → ℕ
one_at path at p x = one_if (is_at path at p x)

pub times_push : {X V : Type 0} (path : X → List ℕ) (at : X → Option V) (xs : List X) (y : X) (p : List ℕ) → times path at (xs ++ y ∷ []) p ≡ times path at xs p + one_at path at p y
times_push path at xs y p = sum_by_push (one_at path at p) xs y

pub times_cons : {X V : Type 0} (path : X → List ℕ) (at : X → Option V) (x : X) (xs : List X) (p : List ℕ) → times path at (x ∷ xs) p ≡ one_at path at p x + times path at xs p
times_cons path at x xs p = sum_by-cons (one_at path at p) x xs

same_one : {X Y V : Type 0} (path : X → List ℕ) (at : X → Option V) (x : X) (path_y : Y → List ℕ) (at_y : Y → Option V) (y : Y) (p : List ℕ) → path_y y ≡ path x → at_y y ≡ at x → one_at path_y at_y p y ≡ one_at path at p x
same_one {V = V} path at x path_y at_y y p e f =
    ap (λ (q : List ℕ). one_if (pointwise nat_eq p q && is_some (at_y y))) e ∙ ap (λ (o : Option V). one_if (pointwise nat_eq p (path x) && is_some o)) f

none_here : (t : Bool) → one_if (t && false) ≡ 0
none_here true = refl
none_here false = refl

no_one : {X V : Type 0} (path : X → List ℕ) (at : X → Option V) (x : X) (p : List ℕ) → at x ≡ None → one_at path at p x ≡ 0
no_one {V = V} path at x p e = ap (λ (o : Option V). one_if (pointwise nat_eq p (path x) && is_some o)) e ∙ none_here (pointwise nat_eq p (path x))

sum_same : (a b c d e f : ℕ) → a ≡ b + c → d ≡ e + f → b ≡ e → c ≡ f → a ≡ d
sum_same a b c d e f h i j k = omega arith

sum_more : (a b c d : ℕ) → a ≡ b + c → c ≡ 0 → b ≡ d → a ≡ d
sum_more a b c d h i j = omega arith

sum_joined : (a b c d e f g : ℕ) → a ≡ b + c → d ≡ e + f → e ≡ b + g → c ≡ g + f → a ≡ d
sum_joined a b c d e f g h i j k = omega arith

-- where at most one of two is there, either is as often there as both
one_of_two : {V : Type 0} (t : Bool) (a b : Option V) → (is_some a && is_some b) ≡ false → one_if (t && is_some (option_or a b)) ≡ one_if (t && is_some a) + one_if (t && is_some b)
one_of_two false a b n = refl
one_of_two true None None n = refl
one_of_two true None (Some y) n = refl
one_of_two true (Some x) None n = refl
one_of_two true (Some x) (Some y) n = absurd (true≢false n)

one_joined : {X V : Type 0} (path : X → List ℕ) (at : X → Option V) (x y z : X) (p : List ℕ) → path z ≡ path x → path x ≡ path y → at z ≡ option_or (at x) (at y) → (is_some (at x) && is_some (at y)) ≡ false → one_at path at p z ≡ one_at path at p x + one_at path at p y
one_joined {V = V} path at x y z p e f g n =
    ap (λ (q : List ℕ). one_if (pointwise nat_eq p q && is_some (at z))) e
    ∙ ap (λ (o : Option V). one_if (pointwise nat_eq p (path x) && is_some o)) g
    ∙ one_of_two (pointwise nat_eq p (path x)) (at x) (at y) n
    ∙ ap (λ (q : List ℕ). one_at path at p x + one_if (pointwise nat_eq p q && is_some (at y))) f

times_each : {X Y V : Type 0} (path : X → List ℕ) (at : X → Option V) (xs : List X) (path_y : Y → List ℕ) (at_y : Y → Option V) (ys : List Y) (p : List ℕ) → length ys ≡ length xs → ((k : ℕ) (d : X) (e : Y) → k < length xs → (path_y (get_or ys k e) ≡ path (get_or xs k d)) × (at_y (get_or ys k e) ≡ at (get_or xs k d))) → times path_y at_y ys p ≡ times path at xs p
times_each path at [] path_y at_y [] p l each = refl
times_each path at [] path_y at_y (y ∷ ys) p l each = absurd (omega arith)
times_each path at (x ∷ xs) path_y at_y [] p l each = absurd (omega arith)
times_each path at (x ∷ xs) path_y at_y (y ∷ ys) p l each =
    let first = each 0 x y (omega arith) in
    sum_each (times path_y at_y (y ∷ ys) p) (one_at path_y at_y p y) (times path_y at_y ys p) (times path at (x ∷ xs) p) (one_at path at p x) (times path at xs p)
    (times_cons path_y at_y y ys p) (times_cons path at x xs p) (same_one path at x path_y at_y y p first.0 first.1)
    (times_each path at xs path_y at_y ys p (omega arith) (λ k d e h. each (suc k) d e (omega arith)))
  where
    sum_each : (a b c d e f : ℕ) → a ≡ b + c → d ≡ e + f → b ≡ e → c ≡ f → a ≡ d
    sum_each a b c d e f h i j k = omega arith

-- ---- lists with the same values

pub same_nothing : {X Y V : Type 0} (path : X → List ℕ) (at : X → Option V) (path_in : Y → List ℕ) (at_in : Y → Option V) → HaveSame path at [] path_in at_in []
same_nothing path at path_in at_in = record {
  kept = λ p v h. absurd (holds_nothing path at p v h);
  known = λ p v h. absurd (holds_nothing path_in at_in p v h);
  as_often = λ p. refl;
}

pub same_refl : {X V : Type 0} (path : X → List ℕ) (at : X → Option V) (xs : List X) → HaveSame path at xs path at xs
same_refl path at xs = record { kept = λ p v h. h; known = λ p v h. h; as_often = λ p. refl }

pub same_trans : {X Y Z V : Type 0} (path : X → List ℕ) (at : X → Option V) (xs : List X) (path_y : Y → List ℕ) (at_y : Y → Option V) (ys : List Y) (path_z : Z → List ℕ) (at_z : Z → Option V) (zs : List Z) → HaveSame path at xs path_y at_y ys → HaveSame path_y at_y ys path_z at_z zs → HaveSame path at xs path_z at_z zs
same_trans path at xs path_y at_y ys path_z at_z zs s t = record {
  kept = λ p v h. t.kept p v (s.kept p v h);
  known = λ p v h. s.known p v (t.known p v h);
  as_often = λ p. t.as_often p ∙ s.as_often p;
}

pub same_moved : {X Y V : Type 0} (path : X → List ℕ) (at : X → Option V) (xs : List X) (path_y : Y → List ℕ) (at_y : Y → Option V) (ys zs : List Y) → IsPermutation ys zs → HaveSame path at xs path_y at_y ys → HaveSame path at xs path_y at_y zs
same_moved path at xs path_y at_y ys zs m s = record {
  kept = λ p v h. holds_moved path_y at_y ys zs p v m (s.kept p v h);
  known = λ p v h. s.known p v (holds_moved path_y at_y zs ys p v (IsPermutation-sym ys zs m) h);
  as_often = λ p. sum_by-IsPermutation (one_at path_y at_y p) ys zs m ∙ s.as_often p;
}

-- both lists get the same value
pub same_push : {X Y V : Type 0} (path : X → List ℕ) (at : X → Option V) (xs : List X) (path_y : Y → List ℕ) (at_y : Y → Option V) (ys : List Y) (x : X) (y : Y) → path_y y ≡ path x → at_y y ≡ at x → HaveSame path at xs path_y at_y ys → HaveSame path at (xs ++ x ∷ []) path_y at_y (ys ++ y ∷ [])
same_push path at xs path_y at_y ys x y e f s = record {
  kept = λ p v h. elim (holds_cases path at xs x p v h) [
    | inl a ↦ holds_old path_y at_y ys y p v (s.kept p v a)
    | inr b ↦ holds_new path_y at_y ys y p v (e ∙ b.0) (f ∙ b.1)
  ];
  known = λ p v h. elim (holds_cases path_y at_y ys y p v h) [
    | inl a ↦ holds_old path at xs x p v (s.known p v a)
    | inr b ↦ holds_new path at xs x p v (sym e ∙ b.0) (sym f ∙ b.1)
  ];
  as_often = λ p.
      sum_same (times path_y at_y (ys ++ y ∷ []) p) (times path_y at_y ys p) (one_at path_y at_y p y) (times path at (xs ++ x ∷ []) p) (times path at xs p) (one_at path at p x)
      (times_push path_y at_y ys y p) (times_push path at xs x p) (s.as_often p) (same_one path at x path_y at_y y p e f);
}

-- the second list gets an element without a value
pub same_more : {X Y V : Type 0} (path : X → List ℕ) (at : X → Option V) (xs : List X) (path_y : Y → List ℕ) (at_y : Y → Option V) (ys : List Y) (y : Y) → at_y y ≡ None → HaveSame path at xs path_y at_y ys → HaveSame path at xs path_y at_y (ys ++ y ∷ [])
same_more path at xs path_y at_y ys y n s = record {
  kept = λ p v h. holds_old path_y at_y ys y p v (s.kept p v h);
  known = λ p v h. elim (holds_cases path_y at_y ys y p v h) [
    | inl a ↦ s.known p v a
    | inr b ↦ absurd (none_some v (sym n ∙ b.1))
  ];
  as_often = λ p.
      sum_more (times path_y at_y (ys ++ y ∷ []) p) (times path_y at_y ys p) (one_at path_y at_y p y) (times path at xs p)
      (times_push path_y at_y ys y p) (no_one path_y at_y y p n) (s.as_often p);
}

or_left : {V : Type 0} (a b : Option V) (v : V) → a ≡ Some v → option_or a b ≡ Some v
or_left None b v e = absurd (none_some v e)
or_left (Some x) b v e = e

or_right : {V : Type 0} (a b : Option V) (v : V) → (is_some a && is_some b) ≡ false → b ≡ Some v → option_or a b ≡ Some v
or_right None b v n e = e
or_right (Some x) None v n e = absurd (none_some v e)
or_right (Some x) (Some y) v n e = absurd (true≢false n)

or_cases : {V : Type 0} (a b : Option V) (v : V) → option_or a b ≡ Some v → (a ≡ Some v) ⊎ (b ≡ Some v)
or_cases None b v e = inr e
or_cases (Some x) b v e = inl e

-- two elements of one path become one
pub same_joined : {X V : Type 0} (path : X → List ℕ) (at : X → Option V) (xs : List X) (x y z : X) → path z ≡ path x → path x ≡ path y → at z ≡ option_or (at x) (at y) → (is_some (at x) && is_some (at y)) ≡ false → HaveSame path at ((xs ++ x ∷ []) ++ y ∷ []) path at (xs ++ z ∷ [])
same_joined path at xs x y z e f g n = record {
  kept = λ p v h. elim (holds_cases path at (xs ++ x ∷ []) y p v h) [
    | inl a ↦ (elim (holds_cases path at xs x p v a) [
      | inl b ↦ holds_old path at xs z p v b
      | inr b ↦ holds_new path at xs z p v (e ∙ b.0) (g ∙ or_left (at x) (at y) v b.1)
    ])
    | inr a ↦ holds_new path at xs z p v (e ∙ f ∙ a.0) (g ∙ or_right (at x) (at y) v n a.1)
  ];
  known = λ p v h. elim (holds_cases path at xs z p v h) [
    | inl a ↦ holds_old path at (xs ++ x ∷ []) y p v (holds_old path at xs x p v a)
    | inr a ↦ (elim (or_cases (at x) (at y) v (sym g ∙ a.1)) [
      | inl b ↦ holds_old path at (xs ++ x ∷ []) y p v (holds_new path at xs x p v (sym e ∙ a.0) b)
      | inr b ↦ holds_new path at (xs ++ x ∷ []) y p v (sym f ∙ sym e ∙ a.0) b
    ])
  ];
  as_often = λ p.
      sum_joined (times path at (xs ++ z ∷ []) p) (times path at xs p) (one_at path at p z) (times path at ((xs ++ x ∷ []) ++ y ∷ []) p) (times path at (xs ++ x ∷ []) p) (one_at path at p y) (one_at path at p x)
      (times_push path at xs z p) (times_push path at (xs ++ x ∷ []) y p) (times_push path at xs x p) (one_joined path at x y z p e f g n);
}

-- the same value at each place
pub same_each : {X Y V : Type 0} (path : X → List ℕ) (at : X → Option V) (xs : List X) (path_y : Y → List ℕ) (at_y : Y → Option V) (ys : List Y) → length ys ≡ length xs → ((k : ℕ) (d : X) (e : Y) → k < length xs → (path_y (get_or ys k e) ≡ path (get_or xs k d)) × (at_y (get_or ys k e) ≡ at (get_or xs k d))) → HaveSame path at xs path_y at_y ys
same_each path at xs path_y at_y ys l each = record {
  kept = λ p v h.
      let k : h.1.0.0 < length ys = let m : h.1.0.0 < length xs = h.1.0.1 in omega arith in
      let d = some_of ys h.1.0.0 k in
      let is = each h.1.0.0 h.0 d h.1.0.1 in
      (get_or ys h.1.0.0 d, (Contains-get_or ys h.1.0.0 d k, is.0 ∙ ap path h.1.0.2 ∙ h.1.1, is.1 ∙ ap at h.1.0.2 ∙ h.1.2));
  known = λ p v h.
      let k : h.1.0.0 < length xs = let m : h.1.0.0 < length ys = h.1.0.1 in omega arith in
      let d = some_of xs h.1.0.0 k in
      let is = each h.1.0.0 d h.0 k in
      (get_or xs h.1.0.0 d, (Contains-get_or xs h.1.0.0 d k, sym is.0 ∙ ap path_y h.1.0.2 ∙ h.1.1, sym is.1 ∙ ap at_y h.1.0.2 ∙ h.1.2));
  as_often = λ p. times_each path at xs path_y at_y ys p l each;
}
