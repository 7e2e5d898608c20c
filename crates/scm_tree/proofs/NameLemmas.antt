-- The names of a path, and the parts of a name.
use Rattle.std.proofs.Common.{◌≡◌, ℕ, ◌+◌, ◌<◌, ◌≤◌, List, [], ◌∷◌, length, take, drop, Bool, true, false, not, suc, cond, Option, Some, None, ltb, refl, arith, sym, ◌∙◌, ap, ◌||◌}
use Rattle.std.specs.Prelude.{is_some}
use Rattle.std.specs.List.{list_any, onto_first, position, position_or_len, slice_split}
use Rattle.std.specs.Option.{option_or}
use Rattle.std.proofs.lemmas.Bool.{false≢true, ltb-true, ltb-false}
use Rattle.std.proofs.lemmas.List.Splits.{slice_split_first}
use Rattle.scm_tree.specs.Folding.{has_part, is_backslash, is_on_ntfs}
use Rattle.scm_tree.specs.declared.names.PathFault.{PathFault}
use Rattle.scm_tree.specs.Names.{first_fault, is_slash, name_fault}

first_of : (n : ℕ) (t : Bool) (i : ℕ) → cond t (Some n) None ≡ Some i → (t ≡ true) × (n ≡ i)
first_of n true i e = (refl, cc)
first_of n false i e = cc

none_of : (n : ℕ) (t : Bool) → cond t (Some n) None ≡ None → t ≡ false
none_of n true e = cc
none_of n false e = refl

pub place_within : (p : ℕ → Bool) (xs : List ℕ) (i : ℕ) → position p xs ≡ Some i → i < length xs
place_within p xs i e =
    let f = first_of (position_or_len p xs) (ltb (position_or_len p xs) (length xs)) i e in
    let l : position_or_len p xs < length xs = ltb-true (position_or_len p xs) (length xs) f.0 in
    let m : position_or_len p xs ≡ i = f.1 in
    omega arith

split_some : (p : ℕ → Bool) (xs : List ℕ) (i : ℕ) → position p xs ≡ Some i → slice_split p xs ≡ take i xs ∷ slice_split p (drop (i + 1) xs)
split_some p xs i e =
    let f = first_of (position_or_len p xs) (ltb (position_or_len p xs) (length xs)) i e in
    let l : position_or_len p xs < length xs = ltb-true (position_or_len p xs) (length xs) f.0 in
    slice_split_first p xs 0 l ∙ ap (λ (k : ℕ). take k xs ∷ slice_split p (drop (k + 1) xs)) f.1

none_step : (p : ℕ → Bool) (x : ℕ) (xs : List ℕ) (t : Bool) (n : ℕ) → suc (length xs) ≤ cond (not t) (1 + n) 0 → (length xs ≤ n → slice_split p xs ≡ xs ∷ []) → cond t ([] ∷ slice_split p xs) (onto_first x (slice_split p xs)) ≡ (x ∷ xs) ∷ []
none_step p x xs true n h ih = absurd (omega arith)
none_step p x xs false n h ih = ap (onto_first x) (ih (omega arith))

split_short : (p : ℕ → Bool) (xs : List ℕ) → length xs ≤ position_or_len p xs → slice_split p xs ≡ xs ∷ []
split_short p [] h = refl
split_short p (x ∷ xs) h = none_step p x xs (p x) (position_or_len p xs) h (split_short p xs)

split_none : (p : ℕ → Bool) (xs : List ℕ) → position p xs ≡ None → slice_split p xs ≡ xs ∷ []
split_none p xs e =
    let t : ltb (position_or_len p xs) (length xs) ≡ false = none_of (position_or_len p xs) (ltb (position_or_len p xs) (length xs)) e in
    split_short p xs (ltb-false (position_or_len p xs) (length xs) t)

-- ---- the first name with a fault

pub slash_within : (xs : List ℕ) (i : ℕ) → position is_slash xs ≡ Some i → i < length xs
slash_within xs i e = place_within is_slash xs i e

fault_some : (xs : List ℕ) (i : ℕ) → position is_slash xs ≡ Some i → first_fault (slice_split is_slash xs) ≡ option_or (name_fault (take i xs)) (first_fault (slice_split is_slash (drop (i + 1) xs)))
unfolding first_fault
fault_some xs i e = ap first_fault (split_some is_slash xs i e)

or_some : (o p : Option PathFault) → is_some o ≡ true → option_or o p ≡ o
or_some None p e = absurd (false≢true e)
or_some (Some x) p e = refl

or_none : (o p : Option PathFault) → is_some o ≡ false → option_or o p ≡ p
or_none None p e = refl
or_none (Some x) p e = absurd (false≢true (sym e))

or_last : (o : Option PathFault) → option_or o None ≡ o
or_last None = refl
or_last (Some x) = refl

pub fault_now : (xs : List ℕ) (i : ℕ) → position is_slash xs ≡ Some i → is_some (name_fault (take i xs)) ≡ true → first_fault (slice_split is_slash xs) ≡ name_fault (take i xs)
fault_now xs i e n = fault_some xs i e ∙ or_some (name_fault (take i xs)) (first_fault (slice_split is_slash (drop (i + 1) xs))) n

pub fault_later : (xs : List ℕ) (i : ℕ) → position is_slash xs ≡ Some i → is_some (name_fault (take i xs)) ≡ false → first_fault (slice_split is_slash xs) ≡ first_fault (slice_split is_slash (drop (i + 1) xs))
fault_later xs i e n = fault_some xs i e ∙ or_none (name_fault (take i xs)) (first_fault (slice_split is_slash (drop (i + 1) xs))) n

pub fault_last : (xs : List ℕ) → position is_slash xs ≡ None → first_fault (slice_split is_slash xs) ≡ name_fault xs
unfolding first_fault
fault_last xs e = ap first_fault (split_none is_slash xs e) ∙ or_last (name_fault xs)

-- ---- a part of a name that passes a test

any_some : (p : ℕ → Bool) (test : List ℕ → Bool) (xs : List ℕ) (i : ℕ) → position p xs ≡ Some i → list_any test (slice_split p xs) ≡ (test (take i xs) || list_any test (slice_split p (drop (i + 1) xs)))
any_some p test xs i e = ap (list_any test) (split_some p xs i e)

or_true : (t u : Bool) → t ≡ true → (t || u) ≡ true
or_true true u e = refl
or_true false u e = absurd (false≢true e)

or_false : (t u : Bool) → t ≡ false → (t || u) ≡ u
or_false true u e = absurd (false≢true (sym e))
or_false false u e = refl

or_nothing : (t : Bool) → (t || false) ≡ t
or_nothing true = refl
or_nothing false = refl

pub part_now : (word short xs : List ℕ) (i : ℕ) → position is_backslash xs ≡ Some i → (is_on_ntfs word (take i xs) || is_on_ntfs short (take i xs)) ≡ true → has_part word short xs ≡ true
part_now word short xs i e n =
    any_some is_backslash (λ part. is_on_ntfs word part || is_on_ntfs short part) xs i e
    ∙ or_true (is_on_ntfs word (take i xs) || is_on_ntfs short (take i xs)) (has_part word short (drop (i + 1) xs)) n

pub part_later : (word short xs : List ℕ) (i : ℕ) → position is_backslash xs ≡ Some i → (is_on_ntfs word (take i xs) || is_on_ntfs short (take i xs)) ≡ false → has_part word short xs ≡ has_part word short (drop (i + 1) xs)
part_later word short xs i e n =
    any_some is_backslash (λ part. is_on_ntfs word part || is_on_ntfs short part) xs i e
    ∙ or_false (is_on_ntfs word (take i xs) || is_on_ntfs short (take i xs)) (has_part word short (drop (i + 1) xs)) n

pub part_last : (word short xs : List ℕ) → position is_backslash xs ≡ None → has_part word short xs ≡ (is_on_ntfs word xs || is_on_ntfs short xs)
part_last word short xs e =
    ap (list_any (λ (part : List ℕ). is_on_ntfs word part || is_on_ntfs short part)) (split_none is_backslash xs e)
    ∙ or_nothing (is_on_ntfs word xs || is_on_ntfs short xs)
