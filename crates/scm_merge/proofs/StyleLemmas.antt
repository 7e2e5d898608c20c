-- How many equal bytes a line begins with.
use Rattle.std.proofs.Common.{◌≡◌, ℕ, ◌+◌, ◌≤◌, ◌==◌, Bool, true, false, not, cond, List, [], ◌∷◌, length, unwrap_or, refl, ap, ◌∙◌, arith}
use Rattle.std.specs.Prelude.{nat_lt, None, Some}
use Rattle.std.specs.List.{position, position_or_len, prefix_len}
use Rattle.std.proofs.lemmas.Bool.Decides.{nat_tests}
use Rattle.std.proofs.lemmas.List.Sums.{prefix_len-le-length}

-- whether the byte is another one than `sign`
abbrev pub is_other : ℕ → ℕ → Bool
is_other sign b = not (b == sign)

place-at : (k n : ℕ) → k ≤ n → (t : Bool) → nat_lt k n ≡ t → unwrap_or (cond t (Some k) None) n ≡ k
place-at k n le true e = refl
place-at k n le false e = let all : n ≤ k = grind (arith, nat_tests) in omega (arith, le, all)

place : (sign : ℕ) (bs : List ℕ) → unwrap_or (position (is_other sign) bs) (length bs) ≡ position_or_len (is_other sign) bs
place sign bs =
    let k = position_or_len (is_other sign) bs in
    place-at k (length bs) (prefix_len-le-length (λ b. not (is_other sign b)) bs) (nat_lt k (length bs)) refl

not-not : (b : Bool) → not (not b) ≡ b
not-not true = refl
not-not false = refl

same-run : (sign : ℕ) (bs : List ℕ) → position_or_len (is_other sign) bs ≡ prefix_len (λ b. b == sign) bs
same-run sign [] = refl
same-run sign (b ∷ bs) =
    ap (λ x. cond x (1 + position_or_len (is_other sign) bs) 0) (not-not (b == sign))
    ∙ ap (λ n. cond (b == sign) (1 + n) 0) (same-run sign bs)

pub run-before : (sign : ℕ) (bs : List ℕ) → unwrap_or (position (is_other sign) bs) (length bs) ≡ prefix_len (λ b. b == sign) bs
run-before sign bs = place sign bs ∙ same-run sign bs
