-- The order of paths, and paths in folders.
use Rattle.std.proofs.Common.{◌≡◌, ℕ, ◌+◌, ◌<◌, ◌≤◌, List, [], ◌∷◌, length, drop, get_or, Bool, true, false, cond, eqb, ltb, refl, arith, sym, ◌∙◌, ap, add-one, ◌⊎◌, inl, inr, eq-eqb, ne_eqb, eqb-true, ltb-true, ltb-false, lt-ltb, le-ltb, ◌++◌}
use Rattle.std.proofs.Math.Seq.{drop-cons}
use Rattle.std.proofs.Math.ListN.{drop_of_length-le}
use Rattle.std.proofs.lemmas.Bool.{false≢true, true≢false, false_from_ne_true, cases_eq, cases_lt}
use Rattle.scm_tree.specs.Paths.{rank, is_before, is_inside}

-- ---- tests

cond_eq : (x y : ℕ) (t u : Bool) → x ≡ y → cond (eqb x y) t u ≡ t
cond_eq x y t u e = rw (eq-eqb x y e) refl

cond_ne : (x y : ℕ) (t u : Bool) → (x ≡ y → ⊥) → cond (eqb x y) t u ≡ u
cond_ne x y t u n = rw (ne_eqb x y n) refl

rank_is : (x n : ℕ) → (((x ≡ 47) × (n ≡ 0)) ⊎ ((x ≡ 47 → ⊥) × (n ≡ x + 1))) → rank x ≡ n
rank_is x n h = go h
  where
    go : (((x ≡ 47) × (n ≡ 0)) ⊎ ((x ≡ 47 → ⊥) × (n ≡ x + 1))) → rank x ≡ n
    go (inl e) = rw (eq-eqb x 47 e.0) (sym e.1)
    go (inr e) = rw (ne_eqb x 47 e.0) (sym e.1)

cases_bool : (t : Bool) → (t ≡ true) ⊎ (t ≡ false)
cases_bool true = inl refl
cases_bool false = inr refl

-- ---- the walks over two paths

drop_at : (p : List ℕ) (i : ℕ) → i < length p → drop i p ≡ get_or p i 0 ∷ drop (i + 1) p
drop_at p i h = rw add-one (drop-cons p i 0 h)

before_same : (b c : ℕ) (bs cs : List ℕ) → b ≡ c → is_before (b ∷ bs) (c ∷ cs) ≡ is_before bs cs
unfolding is_before
before_same b c bs cs e = cond_eq b c (is_before bs cs) (ltb (rank b) (rank c)) e

before_other : (b c : ℕ) (bs cs : List ℕ) → (b ≡ c → ⊥) → is_before (b ∷ bs) (c ∷ cs) ≡ ltb (rank b) (rank c)
unfolding is_before
before_other b c bs cs n = cond_ne b c (is_before bs cs) (ltb (rank b) (rank c)) n

inside_same : (b c : ℕ) (bs cs : List ℕ) → b ≡ c → is_inside (b ∷ bs) (c ∷ cs) ≡ is_inside bs cs
unfolding is_inside
inside_same b c bs cs e = cond_eq b c (is_inside bs cs) false e

inside_other : (b c : ℕ) (bs cs : List ℕ) → (b ≡ c → ⊥) → is_inside (b ∷ bs) (c ∷ cs) ≡ false
unfolding is_inside
inside_other b c bs cs n = cond_ne b c (is_inside bs cs) false n

pub before_step : (p q : List ℕ) (i : ℕ) → i < length p → i < length q → get_or p i 0 ≡ get_or q i 0 → is_before (drop i p) (drop i q) ≡ is_before (drop (i + 1) p) (drop (i + 1) q)
before_step p q i hp hq e =
    rw (drop_at p i hp, drop_at q i hq) (before_same (get_or p i 0) (get_or q i 0) (drop (i + 1) p) (drop (i + 1) q) e)

pub before_differs : (p q : List ℕ) (i : ℕ) → i < length p → i < length q → (get_or p i 0 ≡ get_or q i 0 → ⊥) → is_before (drop i p) (drop i q) ≡ ltb (rank (get_or p i 0)) (rank (get_or q i 0))
before_differs p q i hp hq n =
    rw (drop_at p i hp, drop_at q i hq) (before_other (get_or p i 0) (get_or q i 0) (drop (i + 1) p) (drop (i + 1) q) n)

pub before_past : (p q : List ℕ) (i : ℕ) → i < length p → length q ≤ i → is_before (drop i p) (drop i q) ≡ false
unfolding is_before
before_past p q i hp hq = rw (drop_at p i hp, drop_of_length-le q hq) refl

nil_before : (q : List ℕ) (i : ℕ) → ((i < length q) ⊎ (length q ≤ i)) → is_before [] (drop i q) ≡ ltb i (length q)
unfolding is_before
nil_before q i (inl h) = rw (drop_at q i h, lt-ltb i (length q) h) refl
nil_before q i (inr h) = rw (drop_of_length-le q h, le-ltb i (length q) h) refl

pub before_end : (p q : List ℕ) (i : ℕ) → length p ≤ i → is_before (drop i p) (drop i q) ≡ ltb i (length q)
before_end p q i hp = rw (drop_of_length-le p hp) (nil_before q i (cases_lt i (length q)))

pub inside_step : (p q : List ℕ) (i : ℕ) → i < length p → i < length q → get_or p i 0 ≡ get_or q i 0 → is_inside (drop i p) (drop i q) ≡ is_inside (drop (i + 1) p) (drop (i + 1) q)
inside_step p q i hp hq e =
    rw (drop_at p i hp, drop_at q i hq) (inside_same (get_or p i 0) (get_or q i 0) (drop (i + 1) p) (drop (i + 1) q) e)

pub inside_differs : (p q : List ℕ) (i : ℕ) → i < length p → i < length q → (get_or p i 0 ≡ get_or q i 0 → ⊥) → is_inside (drop i p) (drop i q) ≡ false
inside_differs p q i hp hq n =
    rw (drop_at p i hp, drop_at q i hq) (inside_other (get_or p i 0) (get_or q i 0) (drop (i + 1) p) (drop (i + 1) q) n)

nothing_inside : (p : List ℕ) → is_inside p [] ≡ false
unfolding is_inside
nothing_inside [] = refl
nothing_inside (b ∷ bs) = refl

pub inside_past : (p q : List ℕ) (i : ℕ) → length q ≤ i → is_inside (drop i p) (drop i q) ≡ false
inside_past p q i hq = rw (drop_of_length-le q hq) (nothing_inside (drop i p))

pub inside_end : (p q : List ℕ) (i : ℕ) → length p ≤ i → i < length q → is_inside (drop i p) (drop i q) ≡ eqb (get_or q i 0) 47
unfolding is_inside
inside_end p q i hp hq = rw (drop_of_length-le p hp, drop_at q i hq) refl

-- ---- laws of the order

trans_step : (x y z : ℕ) (t u v : Bool) → (t ≡ true → u ≡ true → v ≡ true) → cond (eqb x y) t (ltb (rank x) (rank y)) ≡ true → cond (eqb y z) u (ltb (rank y) (rank z)) ≡ true → cond (eqb x z) v (ltb (rank x) (rank z)) ≡ true
trans_step x y z t u v ih a b = go (cases_eq x y) (cases_eq y z)
  where
    first : (x ≡ y → ⊥) → rank x < rank y
    first n = ltb-true (rank x) (rank y) (sym (cond_ne x y t (ltb (rank x) (rank y)) n) ∙ a)

    second : (y ≡ z → ⊥) → rank y < rank z
    second n = ltb-true (rank y) (rank z) (sym (cond_ne y z u (ltb (rank y) (rank z)) n) ∙ b)

    far : rank x < rank z → cond (eqb x z) v (ltb (rank x) (rank z)) ≡ true
    far h = cond_ne x z v (ltb (rank x) (rank z)) (λ e. let r : rank x ≡ rank z = ap rank e in absurd (omega arith)) ∙ lt-ltb (rank x) (rank z) h

    go : ((x ≡ y) ⊎ (x ≡ y → ⊥)) → ((y ≡ z) ⊎ (y ≡ z → ⊥)) → cond (eqb x z) v (ltb (rank x) (rank z)) ≡ true
    go (inl e) (inl f) =
        cond_eq x z v (ltb (rank x) (rank z)) (e ∙ f)
        ∙ ih (sym (cond_eq x y t (ltb (rank x) (rank y)) e) ∙ a) (sym (cond_eq y z u (ltb (rank y) (rank z)) f) ∙ b)
    go (inl e) (inr m) = let r : rank x ≡ rank y = ap rank e in let s = second m in far (omega arith)
    go (inr n) (inl f) = let r : rank y ≡ rank z = ap rank f in let s = first n in far (omega arith)
    go (inr n) (inr m) = let r = first n in let s = second m in far (omega arith)

pub before_trans : (p q r : List ℕ) → is_before p q ≡ true → is_before q r ≡ true → is_before p r ≡ true
unfolding is_before
before_trans [] [] r a b = absurd (false≢true a)
before_trans [] (y ∷ q) [] a b = absurd (false≢true b)
before_trans [] (y ∷ q) (z ∷ r) a b = refl
before_trans (x ∷ p) [] r a b = absurd (false≢true a)
before_trans (x ∷ p) (y ∷ q) [] a b = absurd (false≢true b)
before_trans (x ∷ p) (y ∷ q) (z ∷ r) a b =
    trans_step x y z (is_before p q) (is_before q r) (is_before p r) (before_trans p q r) a b

pub before_self : (p : List ℕ) → is_before p p ≡ false
unfolding is_before
before_self [] = refl
before_self (b ∷ bs) = cond_eq b b (is_before bs bs) (ltb (rank b) (rank b)) refl ∙ before_self bs

-- different bytes have different ranks
rank_apart : (x y : ℕ) → (x ≡ y → ⊥) → ((x ≡ 47) ⊎ (x ≡ 47 → ⊥)) → ((y ≡ 47) ⊎ (y ≡ 47 → ⊥)) → rank x ≡ rank y → ⊥
rank_apart x y n (inl a) (inl b) e = n (a ∙ sym b)
rank_apart x y n (inl a) (inr m) e = let k : 0 ≡ y + 1 = sym (rank_is x 0 (inl (a, refl))) ∙ e ∙ rank_is y (y + 1) (inr (m, refl)) in absurd (omega arith)
rank_apart x y n (inr m) (inl b) e = let k : x + 1 ≡ 0 = sym (rank_is x (x + 1) (inr (m, refl))) ∙ e ∙ rank_is y 0 (inl (b, refl)) in absurd (omega arith)
rank_apart x y n (inr m) (inr o) e = let k : x + 1 ≡ y + 1 = sym (rank_is x (x + 1) (inr (m, refl))) ∙ e ∙ rank_is y (y + 1) (inr (o, refl)) in n (omega arith)

total_step : (x y : ℕ) (xs ys : List ℕ) (t u : Bool) → (t ≡ false → u ≡ false → xs ≡ ys) → cond (eqb x y) t (ltb (rank x) (rank y)) ≡ false → cond (eqb y x) u (ltb (rank y) (rank x)) ≡ false → x ∷ xs ≡ y ∷ ys
total_step x y xs ys t u ih a b = go (cases_eq x y)
  where
    go : ((x ≡ y) ⊎ (x ≡ y → ⊥)) → x ∷ xs ≡ y ∷ ys
    go (inl e) =
        let tail : xs ≡ ys = ih (sym (cond_eq x y t (ltb (rank x) (rank y)) e) ∙ a) (sym (cond_eq y x u (ltb (rank y) (rank x)) (sym e)) ∙ b) in
        ap (λ (z : ℕ). z ∷ xs) e ∙ ap (λ (zs : List ℕ). y ∷ zs) tail
    go (inr n) =
        let up : rank y ≤ rank x = ltb-false (rank x) (rank y) (sym (cond_ne x y t (ltb (rank x) (rank y)) n) ∙ a) in
        let down : rank x ≤ rank y = ltb-false (rank y) (rank x) (sym (cond_ne y x u (ltb (rank y) (rank x)) (λ k. n (sym k))) ∙ b) in
        absurd (rank_apart x y n (cases_eq x 47) (cases_eq y 47) (omega arith))

-- of two paths one comes before the other, or they are the same
pub before_total : (p q : List ℕ) → is_before p q ≡ false → is_before q p ≡ false → p ≡ q
unfolding is_before
before_total [] [] a b = refl
before_total [] (y ∷ q) a b = absurd (true≢false a)
before_total (x ∷ p) [] a b = absurd (true≢false b)
before_total (x ∷ p) (y ∷ q) a b = total_step x y p q (is_before p q) (is_before q p) (before_total p q) a b

pub before_one_way : (p q : List ℕ) → is_before p q ≡ true → is_before q p ≡ false
before_one_way p q a = false_from_ne_true (is_before q p) (λ b. false≢true (sym (before_self p) ∙ before_trans p q p a b))

-- what does not come after a path that does not come after `r` does not come after `r`
pub before_chain : (p q r : List ℕ) → is_before p q ≡ false → is_before q r ≡ false → is_before p r ≡ false
before_chain p q r a b = false_from_ne_true (is_before p r) (λ c. go c (cases_bool (is_before q p)))
  where
    go : is_before p r ≡ true → ((is_before q p ≡ true) ⊎ (is_before q p ≡ false)) → ⊥
    go c (inl d) = false≢true (sym b ∙ before_trans q p r d c)
    go c (inr d) = let e : p ≡ q = before_total p q a d in false≢true (sym b ∙ ap (λ (x : List ℕ). is_before x r) (sym e) ∙ c)

-- ---- what is between a folder's name and a file in it, is in the folder

between_nil : (y z : ℕ) (t : Bool) → cond (eqb y z) t (ltb (rank y) (rank z)) ≡ true → eqb z 47 ≡ true → eqb y 47 ≡ true
between_nil y z t b c = go (cases_eq y z)
  where
    slash : z ≡ 47
    slash = eqb-true z 47 c

    go : ((y ≡ z) ⊎ (y ≡ z → ⊥)) → eqb y 47 ≡ true
    go (inl e) = eq-eqb y 47 (e ∙ slash)
    go (inr n) =
        let r : rank z ≡ 0 = ap rank slash in
        let s : rank y < rank z = ltb-true (rank y) (rank z) (sym (cond_ne y z t (ltb (rank y) (rank z)) n) ∙ b) in
        absurd (omega arith)

between_step : (x y z : ℕ) (t u v w : Bool) → (t ≡ true → u ≡ true → v ≡ true → w ≡ true) → cond (eqb x y) t (ltb (rank x) (rank y)) ≡ true → cond (eqb y z) u (ltb (rank y) (rank z)) ≡ true → cond (eqb x z) v false ≡ true → cond (eqb x y) w false ≡ true
between_step x y z t u v w ih a b c = go (cases_eq x z) (cases_eq x y)
  where
    go : ((x ≡ z) ⊎ (x ≡ z → ⊥)) → ((x ≡ y) ⊎ (x ≡ y → ⊥)) → cond (eqb x y) w false ≡ true
    go (inr n) k = absurd (false≢true (sym (cond_ne x z v false n) ∙ c))
    go (inl e) (inl f) =
        cond_eq x y w false f
        ∙ ih (sym (cond_eq x y t (ltb (rank x) (rank y)) f) ∙ a) (sym (cond_eq y z u (ltb (rank y) (rank z)) (sym f ∙ e)) ∙ b) (sym (cond_eq x z v false e) ∙ c)
    go (inl e) (inr n) =
        let m : y ≡ z → ⊥ = λ k. n (e ∙ sym k) in
        let r : rank x < rank y = ltb-true (rank x) (rank y) (sym (cond_ne x y t (ltb (rank x) (rank y)) n) ∙ a) in
        let s : rank y < rank z = ltb-true (rank y) (rank z) (sym (cond_ne y z u (ltb (rank y) (rank z)) m) ∙ b) in
        let k : rank x ≡ rank z = ap rank e in
        absurd (omega arith)

pub between : (p q r : List ℕ) → is_before p q ≡ true → is_before q r ≡ true → is_inside p r ≡ true → is_inside p q ≡ true
unfolding is_before is_inside
between [] [] r a b c = absurd (false≢true a)
between [] (y ∷ q) [] a b c = absurd (false≢true c)
between [] (y ∷ q) (z ∷ r) a b c = between_nil y z (is_before q r) b c
between (x ∷ p) [] r a b c = absurd (false≢true a)
between (x ∷ p) (y ∷ q) [] a b c = absurd (false≢true b)
between (x ∷ p) (y ∷ q) (z ∷ r) a b c =
    between_step x y z (is_before p q) (is_before q r) (is_inside p r) (is_inside p q) (between p q r) a b c

-- ---- what is inside a folder begins with its path and a `/`

pub inside_append : (p rest : List ℕ) → is_inside p (p ++ 47 ∷ rest) ≡ true
unfolding is_inside
inside_append [] rest = refl
inside_append (b ∷ p) rest = inside_same b b p (p ++ 47 ∷ rest) refl ∙ inside_append p rest

prefix_step : (b c : ℕ) (bs cs : List ℕ) → is_inside (b ∷ bs) (c ∷ cs) ≡ true → (is_inside bs cs ≡ true → (rest : List ℕ) × (cs ≡ bs ++ 47 ∷ rest)) → (rest : List ℕ) × (c ∷ cs ≡ (b ∷ bs) ++ 47 ∷ rest)
prefix_step b c bs cs h ih = go (cases_eq b c)
  where
    go : ((b ≡ c) ⊎ (b ≡ c → ⊥)) → (rest : List ℕ) × (c ∷ cs ≡ (b ∷ bs) ++ 47 ∷ rest)
    go (inl e) =
        let found = ih (sym (inside_same b c bs cs e) ∙ h) in
        let tail : cs ≡ bs ++ 47 ∷ found.0 = found.1 in
        (found.0, ap (λ (x : ℕ). x ∷ cs) (sym e) ∙ ap (λ (xs : List ℕ). b ∷ xs) tail)
    go (inr n) = absurd (false≢true (sym (inside_other b c bs cs n) ∙ h))

pub inside_prefix : (p q : List ℕ) → is_inside p q ≡ true → (rest : List ℕ) × (q ≡ p ++ 47 ∷ rest)
unfolding is_inside
inside_prefix [] [] h = absurd (false≢true h)
inside_prefix [] (c ∷ cs) h = (cs, ap (λ (x : ℕ). x ∷ cs) (eqb-true c 47 h))
inside_prefix (b ∷ bs) [] h = absurd (false≢true h)
inside_prefix (b ∷ bs) (c ∷ cs) h = prefix_step b c bs cs h (inside_prefix bs cs)
