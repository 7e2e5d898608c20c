-- The lines of a text, cut off one by one.
use Rattle.std.proofs.Common.{◌≡◌, ℕ, suc, ◌+◌, ◌<◌, ◌≤◌, ◌==◌, List, [], ◌∷◌, ◌++◌, length, take, drop, Bool, true, false, not, cond, if◌then◌else◌, Option, Some, None, MatchOption, IfSome, IfNone, refl, ap, ◌∙◌, arith}
use Rattle.std.proofs.lemmas.Bool.{eqb-true}
use Rattle.std.specs.Prelude.{nat_le}
use Rattle.std.specs.List.{list_all, position_or_len, before_first, after_first}
use Rattle.scm_embed.specs.Lines.{last_line, lines_of, with_first}

-- whether a byte is a line end
abbrev pub is_end : ℕ → Bool
is_end b = b == 10

-- the first line of a text, and the lines after it
abbrev Cut : List ℕ → Type 0
Cut s = lines_of s ≡ (before_first is_end s ++ 10 ∷ []) ∷ lines_of (after_first is_end s)

-- where the first line end is, by whether it is the first byte
abbrev place : Bool → List ℕ → ℕ
place t bs = cond (not t) (1 + position_or_len is_end bs) 0

cut-at : (b : ℕ) (bs : List ℕ) (t : Bool) → (b == 10) ≡ t → (position_or_len is_end bs < length bs → Cut bs) → place t bs < suc (length bs)
    → (if t then (b ∷ []) ∷ lines_of bs else with_first b (lines_of bs))
    ≡ (take (place t bs) (b ∷ bs) ++ 10 ∷ []) ∷ lines_of (drop (place t bs + 1) (b ∷ bs))
cut-at b bs true e rest h = ap (λ (x : ℕ). (x ∷ []) ∷ lines_of bs) (eqb-true b 10 e)
cut-at b bs false e rest h =
    let front : 1 + position_or_len is_end bs ≡ suc (position_or_len is_end bs) = omega arith in
    let back : suc (position_or_len is_end bs) + 1 ≡ suc (position_or_len is_end bs + 1) = omega arith in
    rw (front, back) (ap (with_first b) (rest (omega arith)))

-- the first line ends at the first line end, and the others follow
pub first_line : (s : List ℕ) → position_or_len is_end s < length s → Cut s
first_line [] h = absurd (omega arith)
first_line (b ∷ bs) h = cut-at b bs (b == 10) refl (first_line bs) h

first-last : (b : ℕ) (bs : List ℕ) → with_first b (last_line bs) ≡ (b ∷ bs) ∷ []
first-last b [] = refl
first-last b (x ∷ xs) = refl

whole-at : (b : ℕ) (bs : List ℕ) (t : Bool) → (position_or_len is_end bs ≡ length bs → lines_of bs ≡ last_line bs) → place t bs ≡ suc (length bs)
    → (if t then (b ∷ []) ∷ lines_of bs else with_first b (lines_of bs)) ≡ (b ∷ bs) ∷ []
whole-at b bs true rest h = absurd (omega arith)
whole-at b bs false rest h = ap (with_first b) (rest (omega arith)) ∙ first-last b bs

-- without a line end there is one line, or none
pub no_line_end : (s : List ℕ) → position_or_len is_end s ≡ length s → lines_of s ≡ last_line s
no_line_end [] h = refl
no_line_end (b ∷ bs) h = whole-at b bs (b == 10) (no_line_end bs) h

-- what a cut at the first line end tells
pub cut_none : {P : Type 0} (r : Option P) (s : List ℕ) (Q : P → Type 0) → MatchOption r (position_or_len is_end s ≡ length s) Q → IfNone r (lines_of s ≡ last_line s)
cut_none None s Q m = no_line_end s m
cut_none (Some x) s Q m = tt

pub cut_some : {P : Type 0} (front back : P → List ℕ) (r : Option P) (s : List ℕ)
    → MatchOption r (position_or_len is_end s ≡ length s)
    (λ p. (front p ≡ before_first is_end s) × (back p ≡ after_first is_end s) × (position_or_len is_end s < length s))
    → IfSome r (λ p. lines_of s ≡ (front p ++ 10 ∷ []) ∷ lines_of (back p))
cut_some front back (Some x) s m = rw (m.0, m.1) (first_line s m.2)
cut_some front back None s m = tt

-- ---- lines of a short text

abbrev first_length : List (List ℕ) → ℕ
first_length [] = 0
first_length (l ∷ ls) = length l

abbrev fits : ℕ → List ℕ → Bool
fits m l = nat_le (length l) m

first-begun : (b n : ℕ) (ls : List (List ℕ)) → first_length ls ≤ n → first_length (with_first b ls) ≤ suc n
first-begun b n [] h = omega arith
first-begun b n (l ∷ ls) h = omega arith

first-at : (b : ℕ) (bs : List ℕ) (t : Bool) → first_length (lines_of bs) ≤ length bs
    → first_length (if t then (b ∷ []) ∷ lines_of bs else with_first b (lines_of bs)) ≤ suc (length bs)
first-at b bs true h = omega arith
first-at b bs false h = first-begun b (length bs) (lines_of bs) h

first-within : (s : List ℕ) → first_length (lines_of s) ≤ length s
first-within [] = omega arith
first-within (b ∷ bs) = first-at b bs (b == 10) (first-within bs)

fit-more : (m : ℕ) (l : List ℕ) (ls : List (List ℕ)) → length l ≤ m → list_all (fits m) ls ≡ true → list_all (fits m) (l ∷ ls) ≡ true
fit-more m l ls h e = grind arith

fit-begun : (m b : ℕ) (ls : List (List ℕ)) → first_length ls < m → list_all (fits m) ls ≡ true → list_all (fits m) (with_first b ls) ≡ true
fit-begun m b [] h e = fit-more m (b ∷ []) [] (omega arith) refl
fit-begun m b (l ∷ ls) h e = fit-more m (b ∷ l) ls (omega arith) (grind arith)

fit-at : (m b : ℕ) (bs : List ℕ) (t : Bool) → suc (length bs) ≤ m → first_length (lines_of bs) ≤ length bs → list_all (fits m) (lines_of bs) ≡ true
    → list_all (fits m) (if t then (b ∷ []) ∷ lines_of bs else with_first b (lines_of bs)) ≡ true
fit-at m b bs true h f e = fit-more m (b ∷ []) (lines_of bs) (omega arith) e
fit-at m b bs false h f e = fit-begun m b (lines_of bs) (omega arith) e

-- no line of a text is longer than the text
pub lines_fit : (m : ℕ) (s : List ℕ) → length s ≤ m → list_all (λ l. nat_le (length l) m) (lines_of s) ≡ true
lines_fit m [] h = refl
lines_fit m (b ∷ bs) h = fit-at m b bs (b == 10) h (first-within bs) (lines_fit m bs (omega arith))
