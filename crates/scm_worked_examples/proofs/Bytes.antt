-- Bytes that are no UTF-8: a line on the screen shows U+FFFD for each of them, whatever stands beside it.
use Rattle.std.proofs.Common.{◌≡◌, ℕ, zero, suc, ◌+◌, ◌-◌, ◌<◌, ◌≤◌, ◌==◌, ◌&&◌, nat_lt, Bool, true, false, List, [], ◌∷◌, ◌++◌, Option, Some, None, refl, ap, subst, arith, inl, inr}
use Rattle.std.specs.Prelude.{unwrap_or, codes}
use Rattle.std.specs.Char.{encode_utf8}
use Rattle.std.specs.Str.{chars, is_utf8}
use Rattle.std.proofs.lemmas.Bool.{and_parts, cases_lt}
use Rattle.std.proofs.lemmas.Bool.Decides.{nat_tests}
use Rattle.unicode_width.proofs.Computing.{unicode_width}
use Rattle.unicode_width.specs.Width.{char_width}
use Rattle.scm_cells.specs.Replaced.{line_pieces, pieces_from, replacement}
use Rattle.scm_diff.specs.Bytes.{reserved_char, text_of_bytes}

-- whether the test holds of each number below `n`
abbrev holds_below : (ℕ → Bool) → ℕ → Bool
holds_below p zero = true
holds_below p (suc n) = p n && holds_below p n

holds-at : (p : ℕ → Bool) (n k : ℕ) → holds_below p n ≡ true → k < n → p k ≡ true
holds-at p zero k h l = absurd (omega (arith, l))
holds-at p (suc n) k h l =
    let parts = and_parts (p n) (holds_below p n) h in
    elim (cases_lt k n) [
      | inl less ↦ holds-at p n k parts.1 less
      | inr more ↦ (let same : n ≡ k = omega (arith, l, more) in subst (λ i. p i ≡ true) same parts.0)
    ]

abbrev takes_no_column : ℕ → Bool
takes_no_column c = unwrap_or (char_width false c) 0 == 0

-- all reserved characters, one by one
none-takes : holds_below (λ k. takes_no_column (0xE0080 + k)) 128 ≡ true
unfolding unicode_width
none-takes = refl

no-column : (b : ℕ) → 128 ≤ b → b < 256 → takes_no_column (reserved_char b) ≡ true
no-column b h l =
    let same : 0xE0080 + (b - 128) ≡ 0xE0000 + b = omega (arith, h, l) in
    subst (λ c. takes_no_column c ≡ true) same (holds-at (λ k. takes_no_column (0xE0080 + k)) 128 (b - 128) none-takes (omega (arith, h, l)))

-- the reserved character of each byte is replaced by U+FFFD
pub reserved-replaced : (b : ℕ) → 128 ≤ b → b < 256 → replacement (reserved_char b) ≡ Some (encode_utf8 0xFFFD)
unfolding replacement
reserved-replaced b h l =
    let none = no-column b h l in
    let tab : (reserved_char b == 0x09) ≡ false = grind (arith, nat_tests) in
    let newline : (reserved_char b == 0x0A) ≡ false = grind (arith, nat_tests) in
    let control : nat_lt (reserved_char b) 0x20 ≡ false = grind (arith, nat_tests) in
    let delete : (reserved_char b == 0x7F) ≡ false = grind (arith, nat_tests) in
    rw (tab, newline, control, delete, none) refl

-- It is a piece of the line, with the characters `before` and `after` it in pieces of their own.
pub reserved-shown : (piece before after : List ℕ) (b : ℕ) → 128 ≤ b → b < 256
    → (pieces : List (List ℕ)) × (pieces_from piece (before ++ reserved_char b ∷ after) ≡ pieces ++ encode_utf8 0xFFFD ∷ pieces_from [] after)
unfolding pieces_from
reserved-shown piece [] after b h l = (piece ∷ [], rw (reserved-replaced b h l) refl)
reserved-shown piece (c ∷ cs) after b h l = by_replacement (replacement c) refl (reserved-shown [] cs after b h l) (reserved-shown (piece ++ encode_utf8 c) cs after b h l)
  where
    Shown : List (List ℕ) → Type 0
    Shown found = (pieces : List (List ℕ)) × (found ≡ pieces ++ encode_utf8 0xFFFD ∷ pieces_from [] after)

    by_replacement : (o : Option (List ℕ)) → replacement c ≡ o → Shown (pieces_from [] (cs ++ reserved_char b ∷ after)) → Shown (pieces_from (piece ++ encode_utf8 c) (cs ++ reserved_char b ∷ after))
        → Shown (pieces_from piece (c ∷ (cs ++ reserved_char b ∷ after)))
    by_replacement (Some r) e rest longer = (piece ∷ (r ∷ rest.0), rw e (ap (λ ps. piece ∷ (r ∷ ps)) rest.1))
    by_replacement None e rest longer = (longer.0, rw e longer.1)

-- `café` in Latin-1, and a reserved character that a file has
latin : line_pieces (text_of_bytes (codes "caf" ++ 0xE9 ∷ codes "!")) ≡ codes "caf" ∷ encode_utf8 0xFFFD ∷ codes "!" ∷ []
unfolding line_pieces pieces_from replacement unicode_width chars is_utf8 encode_utf8
latin = refl

reserved : line_pieces (text_of_bytes (encode_utf8 0xE00E9)) ≡ [] ∷ encode_utf8 0xFFFD ∷ [] ∷ encode_utf8 0xFFFD ∷ [] ∷ encode_utf8 0xFFFD ∷ [] ∷ encode_utf8 0xFFFD ∷ []
unfolding line_pieces pieces_from replacement unicode_width chars is_utf8 encode_utf8
reserved = refl
