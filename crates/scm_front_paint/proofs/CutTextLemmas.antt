-- The first bytes of a text, in whole characters.
use Rattle.std.proofs.Common.{◌≡◌, ℕ, zero, suc, ◌<◌, ◌≤◌, Bool, true, false, nat_le, List, length, sym, ap, subst, ◌∙◌, arith, ⊎_elim}
use Rattle.std.specs.Prelude.{IsCharBoundary, slice_index, take, if◌then◌else◌}
use Rattle.std.specs.Fmt.{is_char_start}
use Rattle.std.specs.Fmt.Cut.{floor_char_boundary}
use Rattle.std.proofs.lemmas.Bool.{cases_lt}
use Rattle.std.proofs.lemmas.Bool.Decides.{nat_tests}
use Rattle.scm_front_paint.specs.Headings.{first_bytes}

starts : (b : ℕ) → (128 ≤ b → 192 ≤ b) → is_char_start b ≡ true
starts b h = ⊎_elim
    (λ (low : b < 128). grind (arith, nat_tests))
    (λ (high : 128 ≤ b). let top : 192 ≤ b = h high in grind (arith, nat_tests))
    (cases_lt b 128)

goes-on : (b : ℕ) → ((128 ≤ b → 192 ≤ b) → ⊥) → is_char_start b ≡ false
goes-on b h = ⊎_elim
    (λ (low : b < 128). absurd (h (λ (high : 128 ≤ b). omega (arith, low, high))))
    (λ (high : 128 ≤ b). ⊎_elim
    (λ (inside : b < 192). grind (arith, nat_tests))
    (λ (top : 192 ≤ b). absurd (h (λ _. top)))
    (cases_lt b 192))
    (cases_lt b 128)

-- the last place at or before byte `i` where a character begins
pub last-place : (text : List ℕ) (i kept : ℕ) → i < length text → kept ≤ i → IsCharBoundary text kept
    → ((j : ℕ) → kept < j → j ≤ i → IsCharBoundary text j → ⊥) → floor_char_boundary text i ≡ kept
unfolding floor_char_boundary
last-place text zero kept within low is last = omega (arith, low)
last-place text (suc i) kept within low is last =
    ⊎_elim
    (λ (below : kept < suc i).
    ap (λ (b : Bool). if b then suc i else floor_char_boundary text i)
    (goes-on (slice_index text (suc i)) (λ h. last (suc i) below (omega arith) (omega (arith, within), λ _. h)))
    ∙ last-place text i kept (omega (arith, within)) (omega (arith, below)) is (λ j p q. last j p (omega (arith, q))))
    (λ (above : suc i ≤ kept).
    let same : kept ≡ suc i = omega (arith, above, low) in
    ap (λ (b : Bool). if b then suc i else floor_char_boundary text i) (starts (slice_index text (suc i)) ((subst (IsCharBoundary text) same is).1 within))
    ∙ sym same)
    (cases_lt kept (suc i))

pub long-text : (text : List ℕ) → 80 < length text → take (floor_char_boundary text 80) text ≡ first_bytes text
long-text text long =
    let over : nat_le (length text) 80 ≡ false = grind (arith, nat_tests) in
    ap (λ (b : Bool). if b then text else take (floor_char_boundary text 80) text) (sym over)
