-- A symbol of one code point has room for it wherever it has room for its columns.
use Rattle.std.proofs.Common.{◌≡◌, ℕ, ◌+◌, ◌<◌, ◌≤◌, ◌==◌, ◌&&◌, ◌||◌, nat_lt, nat_le, not, Bool, true, false, List, [], ◌∷◌, length, refl, ap, subst, ◌∙◌, arith, Some, None, ⊎_elim, chars, sum_by}
use Rattle.std.specs.Prelude.{if◌then◌else◌}
use Rattle.std.specs.Int.{is_in_range}
use Rattle.std.specs.List.{list_all}
use Rattle.std.proofs.lemmas.Bool.{cases_lt}
use Rattle.std.proofs.lemmas.Bool.Decides.{nat_tests}
use Rattle.std.proofs.lemmas.List.Sums.{sum_by-cons}
use Rattle.unicode_width.specs.Width.{plain, alone, char_width, step, past_emoji, str_width}
use Rattle.unicode_width.proofs.Computing.{unicode_width}
use Rattle.unicode_width.proofs.Rules.{str_width-printable}
use Rattle.scm_cells.specs.Clusters.{has_control, visible_width}
use Rattle.scm_terminal.specs.Sent.{char_columns, added_columns, is_joined, first_is_joined, stays_on_row, IsOfOne, IsSentWithRoom}

-- ---- the width of a code point, and of a text of it alone

high-step : (c total : ℕ) → nat_lt 0xA0 c ≡ true → step false c (total, plain) ≡ (total + (alone false c).0, (alone false c).1)
unfolding step past_emoji
high-step c total h = grind (arith, nat_tests)

high-alone : (c : ℕ) → 0xA0 < c → str_width false (c ∷ []) ≡ 0 + (alone false c).0
unfolding str_width
high-alone c h = let above : nat_lt 0xA0 c ≡ true = grind (arith, nat_tests) in ap (λ r. r.0) (high-step c 0 above)

high-columns : (c : ℕ) → 0xA0 < c → char_columns c ≡ (alone false c).0
unfolding char_width
high-columns c h =
    let low : nat_lt c 0x7F ≡ false = grind (arith, nat_tests) in
    let above : nat_le 0xA0 c ≡ true = grind (arith, nat_tests) in
    rw (low, above) refl

-- the no-break space
space-one : char_columns 0xA0 ≤ str_width false (0xA0 ∷ [])
unfolding unicode_width
space-one = let a : char_columns 0xA0 ≡ 1 = refl in let b : str_width false (0xA0 ∷ []) ≡ 1 = refl in omega (arith, a, b)

-- controls have no columns
low-none : (c : ℕ) → c < 0x20 → char_columns c ≡ 0
unfolding char_width
low-none c h =
    let low : nat_lt c 0x7F ≡ true = grind (arith, nat_tests) in
    let below : nat_le 0x20 c ≡ false = grind (arith, nat_tests) in
    rw (low, below) refl

middle-none : (c : ℕ) → 0x7F ≤ c → c < 0xA0 → char_columns c ≡ 0
unfolding char_width
middle-none c g h =
    let low : nat_lt c 0x7F ≡ false = grind (arith, nat_tests) in
    let below : nat_le 0xA0 c ≡ false = grind (arith, nat_tests) in
    rw (low, below) refl

printable-one : (c : ℕ) → 0x20 ≤ c → c < 0x7F → char_columns c ≡ 1
unfolding char_width
printable-one c g h =
    let low : nat_lt c 0x7F ≡ true = grind (arith, nat_tests) in
    let above : nat_le 0x20 c ≡ true = grind (arith, nat_tests) in
    rw (low, above) refl

printable-width : (c : ℕ) → 0x20 ≤ c → c < 0x7F → str_width false (c ∷ []) ≡ 1
printable-width c g h =
    let within : is_in_range 0x20 0x7E c ≡ true = grind (arith, nat_tests) in
    str_width-printable false (c ∷ []) (let all : list_all (is_in_range 0x20 0x7E) (c ∷ []) ≡ true = rw within refl in all)

one-columns : (c : ℕ) → char_columns c ≤ str_width false (c ∷ [])
one-columns c =
    ⊎_elim (λ (h : c < 0x20). let none = low-none c h in omega (arith, none))
    (λ (low : 0x20 ≤ c). ⊎_elim (λ (h : c < 0x7F). let one = printable-one c low h in let wide = printable-width c low h in omega (arith, one, wide))
    (λ (middle : 0x7F ≤ c). ⊎_elim (λ (h : c < 0xA0). let none = middle-none c middle h in omega (arith, none))
    (λ (high : 0xA0 ≤ c). ⊎_elim (λ (h : 0xA0 < c). let a = high-alone c h in let b = high-columns c h in omega (arith, a, b))
    (λ (h : c ≤ 0xA0). let same : 0xA0 ≡ c = omega (arith, high, h) in subst (λ (n : ℕ). char_columns n ≤ str_width false (n ∷ [])) same space-one) (cases_lt 0xA0 c)) (cases_lt c 0xA0)) (cases_lt c 0x7F)) (cases_lt c 0x20)

-- ---- a kept symbol

kept-columns : (symbol : List ℕ) (columns : ℕ) → visible_width symbol ≡ Some columns → columns ≡ str_width false (chars symbol)
unfolding visible_width
kept-columns symbol columns e = by (has_control symbol) e
  where
    wide : (b : Bool) → (if b then None else Some (str_width false (chars symbol))) ≡ Some columns → columns ≡ str_width false (chars symbol)
    wide true f = absurd (cc)
    wide false f = cc

    by : (b : Bool) → (if b then None else (if str_width false (chars symbol) == 0 then None else Some (str_width false (chars symbol)))) ≡ Some columns → columns ≡ str_width false (chars symbol)
    by true f = absurd (cc)
    by false f = wide (str_width false (chars symbol) == 0) f

added-one : (c : ℕ) (symbol : List ℕ) → chars symbol ≡ c ∷ [] → added_columns symbol ≡ char_columns c + 0
unfolding added_columns
added-one c symbol one = ap (sum_by char_columns) one ∙ sum_by-cons char_columns c []

stays-by : (width column : ℕ) (symbol : List ℕ) → column + added_columns symbol ≤ width → ((column == 0) && first_is_joined (chars symbol)) ≡ false → stays_on_row width column symbol ≡ true
unfolding stays_on_row
stays-by width column symbol room apart = by (length symbol == 1)
  where
    by : (b : Bool) → (b || (nat_le (column + added_columns symbol) width && not ((column == 0) && first_is_joined (chars symbol)))) ≡ true
    by true = refl
    by false = let test : nat_le (column + added_columns symbol) width ≡ true = grind (arith, nat_tests) in rw (test, apart) refl

pub sent-alone : (c : ℕ) (symbol : List ℕ) → IsOfOne c symbol → IsSentWithRoom c symbol
sent-alone c symbol one columns width column measured room joined =
    let own : columns ≡ str_width false (c ∷ []) = kept-columns symbol columns measured.columns ∙ ap (str_width false) one in
    let sum = added-one c symbol one in
    let few = one-columns c in
    stays-by width column symbol (omega (arith, own, sum, few, room)) (apart (column == 0) refl)
  where
    first : first_is_joined (chars symbol) ≡ is_joined c
    first = ap first_is_joined one

    apart : (b : Bool) → (column == 0) ≡ b → (b && first_is_joined (chars symbol)) ≡ false
    apart true e = let zero : column ≡ 0 = grind (arith, nat_tests) in first ∙ joined zero
    apart false e = refl
