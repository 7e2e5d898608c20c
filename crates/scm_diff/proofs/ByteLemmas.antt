-- Bytes as a text, and back.
use Rattle.std.proofs.Common.{◌≡◌, ℕ, zero, suc, ◌+◌, ◌-◌, ◌<◌, ◌≤◌, ◌==◌, ◌&&◌, ◌||◌, List, [], ◌∷◌, ◌++◌, length, take, drop, get_or, filter, Bool, true, false, not, nat_le, nat_lt, if◌then◌else◌, refl, ap, sym, ◌∙◌, subst, arith, append-nil, append_assoc, length-drop, length-take, ◌⊎◌, inl, inr}
use Rattle.std.specs.List.{flat_map, list_any}
use Rattle.std.specs.Char.{IsScalar, encode_utf8, len_utf8}
use Rattle.std.specs.Str.{IsAscii, IsUtf8, chars, encode_utf8_all, is_utf8}
use lib.Utf8.{scalar, scalars}
use Rattle.std.proofs.lemmas.Bool.{cases_lt}
use Rattle.std.proofs.lemmas.Bool.Decides.{nat_tests}
use Rattle.std.proofs.lemmas.List.{take-append-drop, drop_all, take_at, get_or-drop}
use Rattle.std.proofs.lemmas.List.Concat.{flat_map-append}
use Rattle.std.proofs.lemmas.List.Elements.{filter-append}
use Rattle.std.proofs.lemmas.List.Folds.{list_any-append}
use Rattle.std.proofs.lemmas.Str.{IsCharBoundary-from_take, IsUtf8-drop, IsUtf8-encode, IsUtf8-from_ascii, IsUtf8-from_is_utf8, IsUtf8-nil, chars-IsAscii, chars-append, chars-nil, chars_past_char, encodes-chars, inside_one, is_utf8-from_IsUtf8, len_utf8_bounds, length-encode}
use Rattle.scm_diff.specs.Bytes.{IsPiece, bytes_of_char, bytes_of_text, has_high, is_plain, is_reserved, plain_len, reserved_char, text_after, text_of_bytes}

-- ---- tests

and-both : (a b : Bool) → (a && b) ≡ true → (a ≡ true) × (b ≡ true)
and-both true b e = (refl, e)
and-both false b e = cc

or-both : (a b : Bool) → (a || b) ≡ false → (a ≡ false) × (b ≡ false)
or-both true b e = cc
or-both false b e = (refl, e)

not-true : (a : Bool) → not a ≡ true → a ≡ false
not-true true e = cc
not-true false e = refl

-- a text without such a byte is ASCII
low : (bs : List ℕ) → has_high bs ≡ false → IsAscii bs
low [] e i = omega arith
low (b ∷ bs) e zero = let here = (or-both (nat_le 128 b) (has_high bs) e).0 in grind (arith, nat_tests)
low (b ∷ bs) e (suc i) = low bs (or-both (nat_le 128 b) (has_high bs) e).1 i

not-reserved : (b : ℕ) → b < 128 → is_reserved b ≡ false
not-reserved b h = ap (λ (t : Bool). t && nat_le b 0xE00FF) (not-high (nat_le 0xE0080 b) refl)
  where
    not-high : (t : Bool) → nat_le 0xE0080 b ≡ t → t ≡ false
    not-high true e = grind (arith, nat_tests)
    not-high false e = refl

low-chars : (bs : List ℕ) → IsAscii bs → list_any is_reserved bs ≡ false
low-chars [] h = refl
low-chars (b ∷ bs) h = rw (not-reserved b (h 0)) (low-chars bs (λ (i : ℕ). h (suc i)))

-- so it has no reserved character
pub low-plain : (bs : List ℕ) → has_high bs ≡ false → list_any is_reserved (chars bs) ≡ false
low-plain bs e = let ascii = low bs e in rw (chars-IsAscii bs ascii) (low-chars bs ascii)

-- what a plain text is
pub plain-utf8 : (bs : List ℕ) → is_plain bs ≡ true → IsUtf8 bs
plain-utf8 bs e = IsUtf8-from_is_utf8 bs (and-both (is_utf8 bs) (not (list_any is_reserved (chars bs))) e).0

plain-chars : (bs : List ℕ) → is_plain bs ≡ true → list_any is_reserved (chars bs) ≡ false
plain-chars bs e = not-true (list_any is_reserved (chars bs)) (and-both (is_utf8 bs) (not (list_any is_reserved (chars bs))) e).1

pub is-plain : (bs : List ℕ) → IsUtf8 bs → list_any is_reserved (chars bs) ≡ false → is_plain bs ≡ true
is-plain bs u e = ap (λ t. t && not (list_any is_reserved (chars bs))) (is_utf8-from_IsUtf8 bs u) ∙ ap not e

pub not-plain-utf8 : (bs : List ℕ) → ¬ (IsUtf8 bs) → is_plain bs ≡ false
not-plain-utf8 bs n = at (is_utf8 bs) refl
  where
    at : (t : Bool) → is_utf8 bs ≡ t → is_plain bs ≡ false
    at true e = absurd (n (IsUtf8-from_is_utf8 bs e))
    at false e = ap (λ t. t && not (list_any is_reserved (chars bs))) e

-- ---- the length of the first character

pub plain-one : (bs : List ℕ) → is_plain (take 1 bs) ≡ true → plain_len bs ≡ 1
plain-one bs a = rw a refl

-- the first character is plain
pub plain-take : (bs : List ℕ) → 0 < plain_len bs → is_plain (take (plain_len bs) bs) ≡ true
plain-take bs = at (is_plain (take 1 bs)) (is_plain (take 2 bs)) (is_plain (take 3 bs)) (is_plain (take 4 bs)) refl refl refl refl
  where
    at : (a b c d : Bool) → is_plain (take 1 bs) ≡ a → is_plain (take 2 bs) ≡ b → is_plain (take 3 bs) ≡ c → is_plain (take 4 bs) ≡ d → 0 < (if a then 1 else if b then 2 else if c then 3 else if d then 4 else 0) → is_plain (take (if a then 1 else if b then 2 else if c then 3 else if d then 4 else 0) bs) ≡ true
    at true b c d e f g k h = e
    at false true c d e f g k h = f
    at false false true d e f g k h = g
    at false false false true e f g k h = k
    at false false false false e f g k h = absurd (omega (arith, h))

-- ---- the text of bytes

after-take : (n : ℕ) (bs : List ℕ) → text_after n bs ≡ take n bs ++ text_after 0 (drop n bs)
after-take zero [] = refl
after-take zero (b ∷ bs) = refl
after-take (suc n) [] = refl
after-take (suc n) (b ∷ bs) = ap (λ xs. b ∷ xs) (after-take n bs)

first-plain : (b : ℕ) (bs : List ℕ) (n : ℕ) → 0 < n → (if n == 0 then encode_utf8 (reserved_char b) ++ text_after 0 bs else b ∷ text_after (n - 1) bs) ≡ take n (b ∷ bs) ++ text_of_bytes (drop n (b ∷ bs))
first-plain b bs n h =
    let test : (n == 0) ≡ false = grind (arith, nat_tests) in
    let pred : suc (n - 1) ≡ n = omega arith in
    rw test (ap (λ xs. b ∷ xs) (after-take (n - 1) bs) ∙ ap (λ k. take k (b ∷ bs) ++ text_after 0 (drop k (b ∷ bs))) pred)

first-coded : (b : ℕ) (bs : List ℕ) (n : ℕ) → n ≡ 0 → (if n == 0 then encode_utf8 (reserved_char b) ++ text_after 0 bs else b ∷ text_after (n - 1) bs) ≡ encode_utf8 (reserved_char b) ++ text_of_bytes bs
first-coded b bs n e = rw e refl

pub text-plain : (b : ℕ) (bs : List ℕ) → 0 < plain_len (b ∷ bs) → text_of_bytes (b ∷ bs) ≡ take (plain_len (b ∷ bs)) (b ∷ bs) ++ text_of_bytes (drop (plain_len (b ∷ bs)) (b ∷ bs))
text-plain b bs h = first-plain b bs (plain_len (b ∷ bs)) h

pub text-coded : (b : ℕ) (bs : List ℕ) → plain_len (b ∷ bs) ≡ 0 → text_of_bytes (b ∷ bs) ≡ encode_utf8 (reserved_char b) ++ text_of_bytes bs
text-coded b bs e = first-coded b bs (plain_len (b ∷ bs)) e

-- ---- the bytes of a text

pub none-reserved : (cs : List ℕ) → list_any is_reserved cs ≡ false → flat_map bytes_of_char cs ≡ encode_utf8_all cs
none-reserved [] e = refl
none-reserved (c ∷ cs) e =
    let both = or-both (is_reserved c) (list_any is_reserved cs) e in
    rw both.0 (ap (λ xs. encode_utf8 c ++ xs) (none-reserved cs both.1))

plain-back : (p t : List ℕ) → is_plain p ≡ true → bytes_of_text (p ++ t) ≡ p ++ bytes_of_text t
plain-back p t e =
    let u = plain-utf8 p e in
    ap (flat_map bytes_of_char) (chars-append p t u) ∙ flat_map-append bytes_of_char (chars p) (chars t)
    ∙ ap (λ xs. xs ++ bytes_of_text t) (none-reserved (chars p) (plain-chars p e) ∙ encodes-chars p u)

one-char : (c : ℕ) → IsScalar c → chars (encode_utf8 c) ≡ c ∷ []
one-char c s = chars_past_char (encode_utf8 c) [] c (IsUtf8-encode c s) (sym (append-nil (encode_utf8 c))) ∙ ap (λ xs. c ∷ xs) chars-nil

InScalarRange-scalar : (c : ℕ) → 57344 ≤ c → c < 1114112 → IsScalar c
InScalarRange-scalar c h k =
    let a : nat_lt c 55296 ≡ false = grind (arith, nat_tests) in
    let b : nat_le 57344 c ≡ true = grind (arith, nat_tests) in
    let d : nat_lt c 1114112 ≡ true = grind (arith, nat_tests) in
    rw (a, b, d) refl

coded-scalar : (b : ℕ) → 128 ≤ b → b < 256 → IsScalar (reserved_char b)
coded-scalar b h k =
    InScalarRange-scalar (reserved_char b) (omega arith) (omega arith)

coded-test : (b : ℕ) → 128 ≤ b → b < 256 → is_reserved (reserved_char b) ≡ true
coded-test b h k =
    let low : nat_le 0xE0080 (0xE0000 + b) ≡ true = grind (arith, nat_tests) in
    let high : nat_le (0xE0000 + b) 0xE00FF ≡ true = grind (arith, nat_tests) in
    rw (low, high) refl

coded-bytes : (b : ℕ) → 128 ≤ b → b < 256 → bytes_of_char (reserved_char b) ≡ b ∷ []
coded-bytes b h k = let same : reserved_char b - 0xE0000 ≡ b = omega arith in rw (coded-test b h k) (ap (λ x. x ∷ []) same)

coded-back : (b : ℕ) (t : List ℕ) → 128 ≤ b → b < 256 → bytes_of_text (encode_utf8 (reserved_char b) ++ t) ≡ b ∷ bytes_of_text t
coded-back b t h k =
    let c = reserved_char b in
    let s = coded-scalar b h k in
    ap (flat_map bytes_of_char) (chars-append (encode_utf8 c) t (IsUtf8-encode c s) ∙ ap (λ xs. xs ++ chars t) (one-char c s))
    ∙ ap (λ xs. xs ++ bytes_of_text t) (coded-bytes b h k)

-- ---- bytes come back

byte-ascii : (b : ℕ) → b < 128 → IsAscii (b ∷ [])
byte-ascii b h zero = h
byte-ascii b h (suc i) = omega arith

byte-plain : (b : ℕ) → b < 128 → is_plain (b ∷ []) ≡ true
byte-plain b h =
    let low : nat_le 0xE0080 b ≡ false = grind (arith, nat_tests) in
    let not-reserved : is_reserved b ≡ false = rw low refl in
    is-plain (b ∷ []) (IsUtf8-from_ascii (b ∷ []) (byte-ascii b h)) (ap (list_any is_reserved) (chars-IsAscii (b ∷ []) (byte-ascii b h)) ∙ ap (λ t. t || false) not-reserved)

coded-high : (b : ℕ) (bs : List ℕ) → plain_len (b ∷ bs) ≡ 0 → 128 ≤ b
coded-high b bs e = elim (cases_lt b 128) [ inl h ↦ (let one = plain-one (b ∷ bs) (byte-plain b h) in omega arith) | inr h ↦ h ]

drop-shorter : (n b : ℕ) (bs : List ℕ) (k : ℕ) → 0 < n → length (b ∷ bs) ≤ suc k → length (drop n (b ∷ bs)) ≤ k
drop-shorter n b bs k p h = simp length-drop (omega arith)

pub zero-or-more : (n : ℕ) → (n ≡ 0) ⊎ (0 < n)
zero-or-more n = elim (cases_lt 0 n) [ inl h ↦ inr h | inr h ↦ inl (omega arith) ]

back : (k : ℕ) (bs : List ℕ) → length bs ≤ k → ((i : ℕ) → get_or bs i 0 < 256) → bytes_of_text (text_of_bytes bs) ≡ bs
back k [] h f = ap (flat_map bytes_of_char) chars-nil
back zero (b ∷ bs) h f = absurd (omega arith)
back (suc k) (b ∷ bs) h f = elim (zero-or-more (plain_len (b ∷ bs))) [
  | inl e ↦
      (ap bytes_of_text (text-coded b bs e) ∙ coded-back b (text_of_bytes bs) (coded-high b bs e) (f 0)
      ∙ ap (λ xs. b ∷ xs) (back k bs (omega arith) (λ i. f (suc i))))
  | inr p ↦
      (let n = plain_len (b ∷ bs) in
      let rest = drop n (b ∷ bs) in
      let short = drop-shorter n b bs k p h in
      ap bytes_of_text (text-plain b bs p) ∙ plain-back (take n (b ∷ bs)) (text_of_bytes rest) (plain-take (b ∷ bs) p)
      ∙ ap (λ xs. take n (b ∷ bs) ++ xs) (back k rest short (λ i. subst (λ x. x < 256) (sym (get_or-drop n (b ∷ bs) i 0)) (f (n + i))))
      ∙ take-append-drop n (b ∷ bs))
]

pub bytes-back : (bs : List ℕ) → ((i : ℕ) → get_or bs i 0 < 256) → bytes_of_text (text_of_bytes bs) ≡ bs
bytes-back bs f = back (length bs) bs (omega arith) f

-- ---- a plain text is its own text

some-char : (b : ℕ) (bs cs : List ℕ) → encode_utf8_all cs ≡ b ∷ bs → (c : ℕ) × (rest : List ℕ) × (cs ≡ c ∷ rest)
some-char b bs [] e = cc
some-char b bs (c ∷ cs) e = (c, cs, refl)

none-of : (bs : List ℕ) (n : ℕ) → 1 ≤ n → n ≤ 4 → is_plain (take n bs) ≡ true → is_plain (take 1 bs) ≡ false → is_plain (take 2 bs) ≡ false → is_plain (take 3 bs) ≡ false → is_plain (take 4 bs) ≡ false → ⊥
none-of bs zero h k e a b c d = omega arith
none-of bs (suc zero) h k e a b c d = let wrong : true ≡ false = sym e ∙ a in cc
none-of bs (suc (suc zero)) h k e a b c d = let wrong : true ≡ false = sym e ∙ b in cc
none-of bs (suc (suc (suc zero))) h k e a b c d = let wrong : true ≡ false = sym e ∙ c in cc
none-of bs (suc (suc (suc (suc zero)))) h k e a b c d = let wrong : true ≡ false = sym e ∙ d in cc
none-of bs (suc (suc (suc (suc (suc n))))) h k e a b c d = omega arith

plain-found : (bs : List ℕ) (n : ℕ) → 1 ≤ n → n ≤ 4 → is_plain (take n bs) ≡ true → 0 < plain_len bs
plain-found bs n h k e = at (is_plain (take 1 bs)) (is_plain (take 2 bs)) (is_plain (take 3 bs)) (is_plain (take 4 bs)) refl refl refl refl
  where
    at : (a b c d : Bool) → is_plain (take 1 bs) ≡ a → is_plain (take 2 bs) ≡ b → is_plain (take 3 bs) ≡ c → is_plain (take 4 bs) ≡ d → 0 < (if a then 1 else if b then 2 else if c then 3 else if d then 4 else 0)
    at true b c d p q r s = omega arith
    at false true c d p q r s = omega arith
    at false false true d p q r s = omega arith
    at false false false true p q r s = omega arith
    at false false false false p q r s = absurd (none-of bs n h k e p q r s)

plain-some : (b : ℕ) (bs : List ℕ) → is_plain (b ∷ bs) ≡ true → 0 < plain_len (b ∷ bs)
plain-some b bs e =
    let u = plain-utf8 (b ∷ bs) e in
    let first = some-char b bs u.0 u.1.1 in
    let c = first.0 in
    let rest = encode_utf8_all first.1 in
    let is_char : IsScalar c = (and-both (scalar c) (scalars first.1) (ap scalars (sym first.2) ∙ u.1.0)).0 in
    let joined : b ∷ bs ≡ encode_utf8 c ++ rest = sym u.1.1 ∙ ap encode_utf8_all first.2 in
    let tests : (is_reserved c || list_any is_reserved (chars rest)) ≡ false = ap (list_any is_reserved) (sym (chars_past_char (b ∷ bs) rest c u joined)) ∙ plain-chars (b ∷ bs) e in
    let alone : is_plain (encode_utf8 c) ≡ true =
    is-plain (encode_utf8 c) (IsUtf8-encode c is_char) (ap (list_any is_reserved) (one-char c is_char) ∙ ap (λ t. t || false) (or-both (is_reserved c) (list_any is_reserved (chars rest)) tests).0) in
    let n = length (encode_utf8 c) in
    let front : take n (b ∷ bs) ≡ encode_utf8 c = ap (take n) joined ∙ take_at (encode_utf8 c) rest n refl in
    let long : n ≡ len_utf8 c = length-encode c in
    let bounds = len_utf8_bounds c in
    plain-found (b ∷ bs) n (subst (λ x. 1 ≤ x) (sym long) bounds.0) (subst (λ x. x ≤ 4) (sym long) bounds.1) (ap is_plain front ∙ alone)

plain-drop : (bs : List ℕ) (n : ℕ) → is_plain bs ≡ true → is_plain (take n bs) ≡ true → is_plain (drop n bs) ≡ true
plain-drop bs n e f = elim (cases_lt (length bs) n) [
  | inl h ↦ (ap is_plain (drop_all n bs (omega arith)) ∙ is-plain [] IsUtf8-nil (ap (list_any is_reserved) chars-nil))
  | inr h ↦
      (let u = plain-utf8 bs e in
      let v = plain-utf8 (take n bs) f in
      let all : chars bs ≡ chars (take n bs) ++ chars (drop n bs) = ap chars (sym (take-append-drop n bs)) ∙ chars-append (take n bs) (drop n bs) v in
      is-plain (drop n bs) (IsUtf8-drop bs n u (IsCharBoundary-from_take bs n u h v))
      (or-both (list_any is_reserved (chars (take n bs))) (list_any is_reserved (chars (drop n bs))) (sym (list_any-append is_reserved (chars (take n bs)) (chars (drop n bs))) ∙ ap (list_any is_reserved) (sym all) ∙ plain-chars bs e)).1)
]

same : (k : ℕ) (bs : List ℕ) → length bs ≤ k → is_plain bs ≡ true → text_of_bytes bs ≡ bs
same k [] h e = refl
same zero (b ∷ bs) h e = absurd (omega arith)
same (suc k) (b ∷ bs) h e =
    let p = plain-some b bs e in
    let n = plain_len (b ∷ bs) in
    let rest = drop n (b ∷ bs) in
    let short = drop-shorter n b bs k p h in
    text-plain b bs p ∙ ap (λ xs. take n (b ∷ bs) ++ xs) (same k rest short (plain-drop (b ∷ bs) n e (plain-take (b ∷ bs) p))) ∙ take-append-drop n (b ∷ bs)

pub plain-same : (bs : List ℕ) → is_plain bs ≡ true → text_of_bytes bs ≡ bs
plain-same bs e = same (length bs) bs (omega arith) e

-- ---- the pieces of a text

drop-taken : (n : ℕ) (bs : List ℕ) → drop (length (take n bs)) bs ≡ drop n bs
drop-taken zero bs = refl
drop-taken (suc n) [] = refl
drop-taken (suc n) (b ∷ bs) = drop-taken n bs

taken-some : (n b : ℕ) (bs : List ℕ) → 0 < n → 0 < length (take n (b ∷ bs))
taken-some n b bs h = simp length-take (omega arith)

taken-within : (n : ℕ) (bs : List ℕ) → length (take n bs) ≤ length bs
taken-within n bs = simp length-take (omega arith)

pub piece-plain : (rest old new piece : List ℕ) → 0 < length rest → piece ≡ take (plain_len rest) rest → 0 < plain_len rest → new ≡ old ++ piece → IsPiece rest old new (length piece)
piece-plain [] old new piece l e p m = absurd (omega arith)
piece-plain (b ∷ bs) old new piece l e p m =
    let n = plain_len (b ∷ bs) in
    let all = b ∷ bs in
    subst (λ xs. IsPiece all old new (length xs)) (sym e) (record {
      some = taken-some n b bs p;
      within = taken-within n all;
      joined = ap (λ xs. new ++ text_of_bytes xs) (drop-taken n all) ∙ ap (λ xs. xs ++ text_of_bytes (drop n all)) (m ∙ ap (λ xs. old ++ xs) e)
          ∙ append_assoc old (take n all) (text_of_bytes (drop n all)) ∙ ap (λ xs. old ++ xs) (sym (text-plain b bs p));
    })

-- ---- line ends stay

abbrev pub is_end : ℕ → Bool
is_end b = b == 10

no-ends : (xs : List ℕ) → ((k : ℕ) → k < length xs → 128 ≤ get_or xs k 0) → filter is_end xs ≡ []
no-ends [] f = refl
no-ends (x ∷ xs) f =
    let high : 128 ≤ x = f 0 (omega arith) in
    let test : (x == 10) ≡ false = grind (arith, nat_tests) in
    rw test (no-ends xs (λ k h. f (suc k) (omega arith)))

coded-ends : (b : ℕ) → filter is_end (encode_utf8 (reserved_char b)) ≡ []
coded-ends b = no-ends (encode_utf8 (reserved_char b)) high
  where
    high : (k : ℕ) → k < length (encode_utf8 (reserved_char b)) → 128 ≤ get_or (encode_utf8 (reserved_char b)) k 0
    high k h = elim (cases_lt (get_or (encode_utf8 (reserved_char b)) k 0) 128) [
      | inl low ↦ (let same = inside_one (reserved_char b) [] (encode_utf8 (reserved_char b)) k (sym (append-nil (encode_utf8 (reserved_char b)))) h low in absurd (omega arith))
      | inr ok ↦ ok
    ]

ends-within : (k : ℕ) (bs : List ℕ) → length bs ≤ k → filter is_end (text_of_bytes bs) ≡ filter is_end bs
ends-within k [] h = refl
ends-within zero (b ∷ bs) h = absurd (omega arith)
ends-within (suc k) (b ∷ bs) h = elim (zero-or-more (plain_len (b ∷ bs))) [
  | inl e ↦
      (let high = coded-high b bs e in
      let test : (b == 10) ≡ false = grind (arith, nat_tests) in
      ap (filter is_end) (text-coded b bs e) ∙ filter-append is_end (encode_utf8 (reserved_char b)) (text_of_bytes bs)
      ∙ ap (λ xs. xs ++ filter is_end (text_of_bytes bs)) (coded-ends b) ∙ ends-within k bs (omega arith) ∙ sym (left-out b bs test))
  | inr p ↦
      (let n = plain_len (b ∷ bs) in
      let front = take n (b ∷ bs) in
      let rest = drop n (b ∷ bs) in
      ap (filter is_end) (text-plain b bs p) ∙ filter-append is_end front (text_of_bytes rest)
      ∙ ap (λ xs. filter is_end front ++ xs) (ends-within k rest (drop-shorter n b bs k p h))
      ∙ sym (filter-append is_end front rest) ∙ ap (filter is_end) (take-append-drop n (b ∷ bs)))
]
  where
    left-out : (b : ℕ) (bs : List ℕ) → (b == 10) ≡ false → filter is_end (b ∷ bs) ≡ filter is_end bs
    left-out b bs e = rw e refl

pub ends-stay : (bs : List ℕ) → filter is_end (text_of_bytes bs) ≡ filter is_end bs
ends-stay bs = ends-within (length bs) bs (omega arith)
