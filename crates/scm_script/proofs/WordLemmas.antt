-- The parts of a word: a prefix, a number, one character.
use Rattle.std.proofs.Common.{◌≡◌, ℕ, List, [], ◌∷◌, ◌++◌, length, Bool, true, false, ◌&&◌, ◌==◌, nat_lt, if◌then◌else◌, Option, Some, None, Result, Ok, Err, MatchOption, Bor, refl, sym, ap, ◌∙◌, subst, rules, IsUtf8, chars, encode_utf8, slice_get, option_copied, lt-ltb, ltb-true, eqb-true, eq-eqb}
use Rattle.std.specs.Char.{is_ascii_digit}
use Rattle.std.specs.List.{list_all}
use Rattle.std.specs.Str.Parse.{ParsesUnsigned, digits_value}
use Rattle.std.specs.Str.Pattern.{FindsTextPrefix, StripsPrefix}
use Rattle.std.specs.Result.{result_ok}
use Rattle.std.proofs.lemmas.Option.{none-some, same_Some}
use Rattle.std.proofs.lemmas.Str.{chars_past_char}
use Rattle.std.proofs.lemmas.Str.Parse.{IsNumeralModel, numerals_by_value, parse_digits}
use Rattle.scm_input.specs.declared.terminal.KeyModifiers.{KeyModifiers}
use Rattle.scm_script.specs.Words.{PartialKey, rest_after, decimal_of, only, read_prefix}

-- a prefix: what is behind it is what follows it

pub behind_front : (front rest : List ℕ) → rest_after front (front ++ rest) ≡ Some rest
behind_front [] rest = refl
behind_front (f ∷ front) rest = ap (λ (t : Bool). if t then rest_after front (front ++ rest) else None) (eq-eqb f f refl) ∙ behind_front front rest

both_true : (t : Bool) (o : Option (List ℕ)) (rest : List ℕ) → (if t then o else None) ≡ Some rest → (t ≡ true) × (o ≡ Some rest)
both_true true o rest e = (refl, e)
both_true false o rest e = absurd (none-some rest e)

pub front_behind : (front text rest : List ℕ) → rest_after front text ≡ Some rest → text ≡ front ++ rest
front_behind [] text rest e = same_Some text rest e
front_behind (f ∷ front) [] rest e = absurd (none-some rest e)
front_behind (f ∷ front) (b ∷ text) rest e =
    let first = both_true (b == f) (rest_after front text) rest e in
    let same : b ≡ f = eqb-true b f first.0 in let more : text ≡ front ++ rest = front_behind front text rest first.1 in
    λ i. same i ∷ more i

no_front : (front text : List ℕ) (o : Option (List ℕ)) → rest_after front text ≡ o → ((rest : List ℕ) → text ≡ front ++ rest → ⊥) → None ≡ o
no_front front text None e lacks = refl
no_front front text (Some rest) e lacks = absurd (lacks rest (front_behind front text rest e))

pub stripped : (front text : List ℕ) (r : Option (Bor (List ℕ)))
    → MatchOption r (FindsTextPrefix front text None) (λ x. StripsPrefix (FindsTextPrefix front) text x.now) → option_copied r ≡ rest_after front text
stripped front text None lacks = no_front front text (rest_after front text) refl (λ rest e. lacks rest e)
stripped front text (Some x) h =
    sym (behind_front front x.now) ∙ ap (rest_after front) (sym (h.1.1 ∙ ap (λ (rest : List ℕ). front ++ rest) (sym h.2)))

-- a number in digits

own : IsNumeralModel (λ ds. list_all is_ascii_digit ds ≡ true) (digits_value 10)
own = numerals_by_value _ (search rules)

fits : (a b c : Bool) (v : ℕ) → a ≡ true → b ≡ true → c ≡ true → (if a && (b && c) then Some v else None) ≡ Some v
fits a b c v e f g = rw (e, f, g) refl

fits_not : (a b c : Bool) (v : ℕ) → (a ≡ true → c ≡ true → ⊥) → (if a && (b && c) then Some v else None) ≡ None
fits_not true true true v no_fit = absurd (no_fit refl refl)
fits_not true true false v no_fit = refl
fits_not true false c v no_fit = refl
fits_not false b c v no_fit = refl

pub decimal_is : {E : Type 0} (text : List ℕ) (r : Result ℕ E) → ParsesUnsigned 16 10 text r → list_all is_ascii_digit text ≡ true → result_ok r ≡ decimal_of text
decimal_is {E} text (Ok n) h digits =
    let k = parse_digits own {E = E} 16 text (Ok n) h digits in
    ap Some k.1 ∙ sym (fits (nat_lt 0 (length text)) (list_all is_ascii_digit text) (nat_lt (digits_value 10 text) 65536) (digits_value 10 text) (lt-ltb 0 (length text) k.0.0) digits (lt-ltb (digits_value 10 text) 65536 k.0.1))
decimal_is {E} text (Err e) h digits =
    let k = parse_digits own {E = E} 16 text (Err e) h digits in
    sym (fits_not (nat_lt 0 (length text)) (list_all is_ascii_digit text) (nat_lt (digits_value 10 text) 65536) (digits_value 10 text) (λ some small. k (ltb-true 0 (length text) some, ltb-true (digits_value 10 text) 65536 small)))

-- one character

only_one : (c : ℕ) (cs : List ℕ) → slice_get cs 0 ≡ None → only (c ∷ cs) ≡ Some c
only_one c [] e = refl
only_one c (d ∷ cs) e = absurd (none-some d (sym e))

only_two : (c : ℕ) (cs : List ℕ) (d : ℕ) → slice_get cs 0 ≡ Some d → only (c ∷ cs) ≡ None
only_two c [] d e = absurd (none-some d e)
only_two c (b ∷ cs) d e = refl

pub one_char : (text rest : List ℕ) (c : ℕ) → IsUtf8 text → text ≡ encode_utf8 c ++ rest → slice_get (chars rest) 0 ≡ None → only (chars text) ≡ Some c
one_char text rest c u e n = ap only (chars_past_char text rest c u e) ∙ only_one c (chars rest) n

pub two_chars : (text rest : List ℕ) (c d : ℕ) → IsUtf8 text → text ≡ encode_utf8 c ++ rest → slice_get (chars rest) 0 ≡ Some d → only (chars text) ≡ None
two_chars text rest c d u e n = ap only (chars_past_char text rest c u e) ∙ only_two c (chars rest) d n

-- prefixes, read one after the other

joined : (p : PartialKey) (modifiers : KeyModifiers) (rest : List ℕ) → modifiers ≡ p.modifiers → rest ≡ p.rest → ◌≡◌ {A = PartialKey} (record { modifiers = modifiers; rest = rest }) p
joined p modifiers rest e f = λ i. record { modifiers = e i; rest = f i }

abbrev pub Reads : PartialKey → KeyModifiers → List ℕ → Type 0
Reads p modifiers rest = (modifiers ≡ (read_prefix p).modifiers) × (rest ≡ (read_prefix p).rest)

pub reads_on : (p : PartialKey) (h : KeyModifiers) (r : List ℕ) (h' : KeyModifiers) (r' : List ℕ)
    → Reads p h r → Reads (record { modifiers = h; rest = r }) h' r' → Reads (read_prefix p) h' r'
reads_on p h r h' r' first second =
    let e : ◌≡◌ {A = PartialKey} (record { modifiers = h; rest = r }) (read_prefix p) = joined (read_prefix p) h r first.0 first.1 in
    subst (λ (q : PartialKey). Reads q h' r') e second
