-- Places of bytes.
use Rattle.std.proofs.Common.{◌≡◌, ℕ, ◌+◌, ◌<◌, ◌≤◌, List, length, get_or, eqb, ltb, cond, Bool, true, false, Option, Some, None, refl, arith, sym, ◌∙◌, ap, eq-eqb, ne_eqb, lt-ltb, le-ltb, inl, inr}
use Rattle.std.specs.Prelude.{is_some}
use Rattle.std.specs.List.{list_any, position, position_or_len}
use Rattle.std.proofs.lemmas.List.Folds.{list_any_at, list_any_none}
use Rattle.std.proofs.lemmas.List.Quantifiers.{position-Some}
use Rattle.std.proofs.lemmas.Bool.{cases_lt, ltb-false}
use Rattle.std.proofs.lemmas.List.Sums.{fails_before_first, position_or_len_is}

-- whether the byte is another one
abbrev pub is_byte : ℕ → ℕ → Bool
is_byte b x = eqb x b

-- No byte before place `i` is `b`.
pub record IsPassed (b : ℕ) (xs : List ℕ) (i : ℕ) : Type 0 where
  pub differ : (k : ℕ) → k < i → eqb (get_or xs k 0) b ≡ false

pub none_passed : (b : ℕ) (xs : List ℕ) → IsPassed b xs 0
none_passed b xs = record { differ = λ k h. absurd (omega arith) }

pub passed : (b : ℕ) (xs : List ℕ) (i : ℕ) → IsPassed b xs i → (get_or xs i 0 ≡ b → ⊥) → IsPassed b xs (i + 1)
passed b xs i p n = record {
  differ = λ k h. elim (cases_lt k i) [
    | inl l ↦ p.differ k l
    | inr l ↦ (let e : k ≡ i = omega arith in ap (λ (m : ℕ). eqb (get_or xs m 0) b) e ∙ ne_eqb (get_or xs i 0) b n)
  ];
}

first_or_none : (xs : List ℕ) (n i : ℕ) → n ≡ i → i < length xs → Some i ≡ cond (ltb n (length xs)) (Some n) None
first_or_none xs n i e h = rw (e, lt-ltb i (length xs) h) refl

none_before : (xs : List ℕ) (n i : ℕ) → n ≡ i → length xs ≤ i → None ≡ cond (ltb n (length xs)) (Some n) None
none_before xs n i e h = rw (e, le-ltb i (length xs) h) refl

pub found : (b : ℕ) (xs : List ℕ) (i : ℕ) → IsPassed b xs i → i < length xs → get_or xs i 0 ≡ b → Some i ≡ position (is_byte b) xs
found b xs i p h e =
    first_or_none xs (position_or_len (is_byte b) xs) i (position_or_len_is (is_byte b) xs i 0 (omega arith) p.differ (λ k. eq-eqb (get_or xs i 0) b e)) h

pub none_left : (b : ℕ) (xs : List ℕ) (i : ℕ) → IsPassed b xs i → i ≤ length xs → length xs ≤ i → None ≡ position (is_byte b) xs
none_left b xs i p l h =
    none_before xs (position_or_len (is_byte b) xs) i (position_or_len_is (is_byte b) xs i 0 l p.differ (λ k. absurd (omega arith))) h

-- ---- whether a byte passes a test

none_of : (t : Bool) (n : ℕ) → cond t (Some n) None ≡ None → t ≡ false
none_of false n e = refl
none_of true n e = absurd (some_none n e)
  where
    some_none : (n : ℕ) → Some n ≡ None → ⊥
    some_none n e = cc

pub none_at : (p : ℕ → Bool) (xs : List ℕ) → position p xs ≡ None → (k d : ℕ) → k < length xs → p (get_or xs k d) ≡ false
none_at p xs e k d l =
    let past : length xs ≤ position_or_len p xs = ltb-false (position_or_len p xs) (length xs) (none_of (ltb (position_or_len p xs) (length xs)) (position_or_len p xs) e) in
    fails_before_first p xs k d (omega arith)

pub any_place : (p : ℕ → Bool) (xs : List ℕ) (o : Option ℕ) → o ≡ position p xs → is_some o ≡ list_any p xs
any_place p xs None e = sym (list_any_none p xs (λ k d l. none_at p xs (sym e) k d l))
any_place p xs (Some i) e = let f = position-Some p xs i 0 (sym e) in sym (list_any_at p xs i 0 f.0 f.1)
