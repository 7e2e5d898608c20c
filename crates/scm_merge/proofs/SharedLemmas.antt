-- The lines that two lists share at their start and at their end.
use Rattle.std.proofs.Common.{◌≡◌, ℕ, zero, suc, ◌+◌, ◌-◌, ◌≤◌, ◌<◌, Bool, true, false, cond, List, [], ◌∷◌, ◌++◌, length, length-drop, get_or, take, drop, reverse, min, refl, ap, sym, ◌∙◌, arith}
use Rattle.std.specs.Prelude.{nat_eq, slice_range}
use Rattle.std.specs.Cmp.Lexicographic.{bytes_decides, pointwise}
use Rattle.std.proofs.lemmas.List.{drop-drop, get_or-reverse, length-reverse, reverse-append, reverse-reverse, take-append-drop}
use Rattle.std.proofs.lemmas.List.Sums.{common_prefix_len-drop_no, common_prefix_len-drop_yes, common_prefix_len-le}
use Rattle.std.proofs.Math.Seq.{drop-append_seam, take-append_seam}
use Rattle.scm_merge.specs.Parts.{shared_end, shared_start}

-- ---- parts of a list

pub slice-drop : (xs : List (List ℕ)) (i k : ℕ) → i ≤ k → slice_range xs i k ++ drop k xs ≡ drop i xs
slice-drop xs i k h =
    let place : i + (k - i) ≡ k = omega arith in
    ap (λ n. slice_range xs i k ++ drop n xs) (sym place) ∙ ap (λ ys. slice_range xs i k ++ ys) (sym (drop-drop (k - i) i xs)) ∙ take-append-drop (k - i) (drop i xs)

-- a list is its first lines, the lines between, and its last lines
pub three-pieces : (xs : List (List ℕ)) (n m : ℕ) → n + m ≤ length xs → take n xs ++ (slice_range xs n (length xs - m) ++ drop (length xs - m) xs) ≡ xs
three-pieces xs n m h = ap (λ ys. take n xs ++ ys) (slice-drop xs n (length xs - m) (omega arith)) ∙ take-append-drop n xs

last-count : (xs : List (List ℕ)) (m : ℕ) → m ≤ length xs → length (reverse (drop (length xs - m) xs)) ≡ m
last-count xs m h = length-reverse (drop (length xs - m) xs) ∙ length-drop (length xs - m) xs ∙ omega arith

two-reversed : (xs : List (List ℕ)) (k : ℕ) → reverse xs ≡ reverse (drop k xs) ++ reverse (take k xs)
two-reversed xs k = ap reverse (sym (take-append-drop k xs)) ∙ reverse-append (take k xs) (drop k xs)

-- the last lines of a list are the first ones of the reversed list
last-lines : (xs : List (List ℕ)) (m : ℕ) → m ≤ length xs → take m (reverse xs) ≡ reverse (drop (length xs - m) xs)
last-lines xs m h =
    let k = length xs - m in
    let a = reverse (drop k xs) in
    let b = reverse (take k xs) in
    ap (take m) (two-reversed xs k)
    ∙ ap (λ n. take n (a ++ b)) (sym (last-count xs m h))
    ∙ take-append_seam a b

-- the lines before the last ones, reversed, are what follows the first ones of the reversed list
lines-before : (xs : List (List ℕ)) (m : ℕ) → m ≤ length xs → drop m (reverse xs) ≡ reverse (take (length xs - m) xs)
lines-before xs m h =
    let k = length xs - m in
    let a = reverse (drop k xs) in
    let b = reverse (take k xs) in
    ap (drop m) (two-reversed xs k)
    ∙ ap (λ n. drop n (a ++ b)) (sym (last-count xs m h))
    ∙ drop-append_seam a b

-- ---- shared lines

first-taken : (n : ℕ) (x : List ℕ) (xs : List (List ℕ)) → take (1 + n) (x ∷ xs) ≡ x ∷ take n xs
first-taken n x xs = let e : 1 + n ≡ suc n = omega arith in ap (λ k. take k (x ∷ xs)) e

first-dropped : (n : ℕ) (x : List ℕ) (xs : List (List ℕ)) → drop (1 + n) (x ∷ xs) ≡ drop n xs
first-dropped n x xs = let e : 1 + n ≡ suc n = omega arith in ap (λ k. drop k (x ∷ xs)) e

pub start-shared : (xs ys : List (List ℕ)) → take (shared_start xs ys) xs ≡ take (shared_start xs ys) ys
start-shared [] ys = refl
start-shared (x ∷ xs) [] = refl
start-shared (x ∷ xs) (y ∷ ys) = at (start-shared xs ys) (pointwise nat_eq x y) refl
  where
    at : take (shared_start xs ys) xs ≡ take (shared_start xs ys) ys → (b : Bool) → pointwise nat_eq x y ≡ b → take (cond b (1 + shared_start xs ys) 0) (x ∷ xs) ≡ take (cond b (1 + shared_start xs ys) 0) (y ∷ ys)
    at more true e =
        first-taken (shared_start xs ys) x xs
        ∙ ap (λ z. z ∷ take (shared_start xs ys) xs) ((bytes_decides x y).0 e)
        ∙ ap (λ zs. y ∷ zs) more
        ∙ sym (first-taken (shared_start xs ys) y ys)
    at more false e = refl

-- the first lines after those that are shared are not shared
pub start-rest : (xs ys : List (List ℕ)) → shared_start (drop (shared_start xs ys) xs) (drop (shared_start xs ys) ys) ≡ 0
start-rest [] ys = refl
start-rest (x ∷ xs) [] = refl
start-rest (x ∷ xs) (y ∷ ys) = at (start-rest xs ys) (pointwise nat_eq x y) refl
  where
    at : shared_start (drop (shared_start xs ys) xs) (drop (shared_start xs ys) ys) ≡ 0 → (b : Bool) → pointwise nat_eq x y ≡ b → shared_start (drop (cond b (1 + shared_start xs ys) 0) (x ∷ xs)) (drop (cond b (1 + shared_start xs ys) 0) (y ∷ ys)) ≡ 0
    at more true e =
        ap (λ zs. shared_start zs (drop (1 + shared_start xs ys) (y ∷ ys))) (first-dropped (shared_start xs ys) x xs)
        ∙ ap (λ zs. shared_start (drop (shared_start xs ys) xs) zs) (first-dropped (shared_start xs ys) y ys)
        ∙ more
    at more false e = ap (λ b. cond b (1 + shared_start xs ys) 0) e

-- a list that is cut shares no more at its start
pub start-cut : (xs ys : List (List ℕ)) (a b : ℕ) → shared_start xs ys ≡ 0 → shared_start (take a xs) (take b ys) ≡ 0
start-cut xs ys zero b h = refl
start-cut [] ys (suc a) b h = refl
start-cut (x ∷ xs) ys (suc a) zero h = refl
start-cut (x ∷ xs) [] (suc a) (suc b) h = refl
start-cut (x ∷ xs) (y ∷ ys) (suc a) (suc b) h = at (pointwise nat_eq x y) refl h
  where
    at : (t : Bool) → pointwise nat_eq x y ≡ t → cond t (1 + shared_start xs ys) 0 ≡ 0 → cond (pointwise nat_eq x y) (1 + shared_start (take a xs) (take b ys)) 0 ≡ 0
    at true e g = absurd (grind arith)
    at false e g = ap (λ t. cond t (1 + shared_start (take a xs) (take b ys)) 0) e

line-exchanged : (x y : List ℕ) → pointwise nat_eq x y ≡ pointwise nat_eq y x
line-exchanged x y = at (pointwise nat_eq x y) (pointwise nat_eq y x) refl refl
  where
    at : (a b : Bool) → pointwise nat_eq x y ≡ a → pointwise nat_eq y x ≡ b → a ≡ b
    at true true e f = refl
    at false false e f = refl
    at true false e f = let k : true ≡ false = sym ((bytes_decides y x).1 (sym ((bytes_decides x y).0 e))) ∙ f in cc
    at false true e f = let k : true ≡ false = sym ((bytes_decides x y).1 (sym ((bytes_decides y x).0 f))) ∙ e in cc

pub start-exchanged : (xs ys : List (List ℕ)) → shared_start xs ys ≡ shared_start ys xs
start-exchanged [] [] = refl
start-exchanged [] (y ∷ ys) = refl
start-exchanged (x ∷ xs) [] = refl
start-exchanged (x ∷ xs) (y ∷ ys) = ap (λ b. cond b (1 + shared_start xs ys) 0) (line-exchanged x y) ∙ ap (λ n. cond (pointwise nat_eq y x) (1 + n) 0) (start-exchanged xs ys)

pub start-bounds : (xs ys : List (List ℕ)) → (shared_start xs ys ≤ length xs) × (shared_start xs ys ≤ length ys)
start-bounds xs ys = common_prefix_len-le (pointwise nat_eq) xs ys

-- The lines that two lists share at their end, where `n` lines are left out at their start.
pub record HasEnd (n m : ℕ) (xs ys : List (List ℕ)) : Type 0 where
  pub first : n + m ≤ length xs
  pub second : n + m ≤ length ys
  pub shared : drop (length xs - m) xs ≡ drop (length ys - m) ys

end-place : (xs : List (List ℕ)) (n m : ℕ) → n + m ≤ length xs → drop (length (drop n xs) - m) (drop n xs) ≡ drop (length xs - m) xs
end-place xs n m h =
    let place : n + (length (drop n xs) - m) ≡ length xs - m = simp length-drop (omega arith) in
    drop-drop (length (drop n xs) - m) n xs ∙ ap (λ k. drop k xs) place

pub end-shared : (n : ℕ) (xs ys : List (List ℕ)) → n ≤ length xs → n ≤ length ys → HasEnd n (shared_end (drop n xs) (drop n ys)) xs ys
end-shared n xs ys h g =
    let a = drop n xs in
    let b = drop n ys in
    let m = shared_end a b in
    let bounds = start-bounds (reverse a) (reverse b) in
    let la : length (reverse a) ≡ length xs - n = length-reverse a ∙ length-drop n xs in
    let lb : length (reverse b) ≡ length ys - n = length-reverse b ∙ length-drop n ys in
    let u : m ≤ length (reverse a) = bounds.0 in
    let v : m ≤ length (reverse b) = bounds.1 in
    let ma : m ≤ length a = let e = length-reverse a in omega arith in
    let mb : m ≤ length b = let e = length-reverse b in omega arith in
    let p : n + m ≤ length xs = omega arith in
    let q : n + m ≤ length ys = omega arith in
    record {
      first = p;
      second = q;
      shared =
          sym (end-place xs n m p)
          ∙ sym (reverse-reverse (drop (length a - m) a))
          ∙ ap reverse (sym (last-lines a m ma) ∙ start-shared (reverse a) (reverse b) ∙ last-lines b m mb)
          ∙ reverse-reverse (drop (length b - m) b)
          ∙ end-place ys n m q;
    }

slice-as-take : (xs : List (List ℕ)) (n m : ℕ) → slice_range xs n (length xs - m) ≡ take (length (drop n xs) - m) (drop n xs)
slice-as-take xs n m = let e : (length xs - m) - n ≡ length (drop n xs) - m = simp length-drop (omega arith) in ap (λ k. take k (drop n xs)) e

-- between the shared lines, the sides differ in their last line
pub end-rest : (n : ℕ) (xs ys : List (List ℕ)) → n ≤ length xs → n ≤ length ys → shared_end (slice_range xs n (length xs - shared_end (drop n xs) (drop n ys))) (slice_range ys n (length ys - shared_end (drop n xs) (drop n ys))) ≡ 0
end-rest n xs ys h g =
    let a = drop n xs in
    let b = drop n ys in
    let m = shared_end a b in
    let bounds = start-bounds (reverse a) (reverse b) in
    let u : m ≤ length (reverse a) = bounds.0 in
    let v : m ≤ length (reverse b) = bounds.1 in
    let ma : m ≤ length a = let e = length-reverse a in omega arith in
    let mb : m ≤ length b = let e = length-reverse b in omega arith in
    ap (λ z. shared_start (reverse z) (reverse (slice_range ys n (length ys - m)))) (slice-as-take xs n m)
    ∙ ap (λ z. shared_start (reverse (take (length a - m) a)) (reverse z)) (slice-as-take ys n m)
    ∙ ap (λ z. shared_start z (reverse (take (length b - m) b))) (sym (lines-before a m ma))
    ∙ ap (λ z. shared_start (drop m (reverse a)) z) (sym (lines-before b m mb))
    ∙ start-rest (reverse a) (reverse b)

-- between the shared lines, the sides differ in their first line
pub start-between : (n : ℕ) (xs ys : List (List ℕ)) (i j : ℕ) → n ≡ shared_start xs ys → shared_start (slice_range xs n i) (slice_range ys n j) ≡ 0
start-between n xs ys i j e = start-cut (drop n xs) (drop n ys) (i - n) (j - n) (ap (λ k. shared_start (drop k xs) (drop k ys)) e ∙ start-rest xs ys)

-- ---- a count that grows line by line

pub nothing-left : (xs ys : List (List ℕ)) (k : ℕ) → min (length xs) (length ys) ≤ k → shared_start (drop k xs) (drop k ys) ≡ 0
nothing-left xs ys k h = at (drop k xs) (drop k ys) (length-drop k xs) (length-drop k ys)
  where
    at : (us vs : List (List ℕ)) → length us ≡ length xs - k → length vs ≡ length ys - k → shared_start us vs ≡ 0
    at [] vs e f = refl
    at (u ∷ us) [] e f = refl
    at (u ∷ us) (v ∷ vs) e f = absurd (grind arith)

pub one-more : (xs ys : List (List ℕ)) (k : ℕ) → k < length xs → k < length ys → pointwise nat_eq (get_or xs k []) (get_or ys k []) ≡ true → shared_start (drop k xs) (drop k ys) ≡ 1 + shared_start (drop (k + 1) xs) (drop (k + 1) ys)
one-more xs ys k h g e = common_prefix_len-drop_yes (pointwise nat_eq) xs ys k [] [] h g e

pub no-more : (xs ys : List (List ℕ)) (k : ℕ) → k < length xs → k < length ys → pointwise nat_eq (get_or xs k []) (get_or ys k []) ≡ false → shared_start (drop k xs) (drop k ys) ≡ 0
no-more xs ys k h g e = common_prefix_len-drop_no (pointwise nat_eq) xs ys k [] [] h g e

pub ruleset shared_steps = (one-more, no-more, nothing-left, length-reverse, get_or-reverse)
