-- The end of a line, with its replacements.
use Rattle.std.proofs.Common.{◌≡◌, ℕ, ◌+◌, ◌*◌, ◌≤◌, Bool, true, false, List, [], ◌∷◌, ◌++◌, length, Option, Some, None, refl, sym, ap, ap₂, subst, ◌∙◌, arith, append_assoc, append-nil, length-append, encode_utf8}
use Rattle.std.specs.Prelude.{if◌then◌else◌, ◌==◌, ◌&&◌, nat_lt, unwrap_or}
use Rattle.std.specs.List.{concat}
use Rattle.std.specs.Str.{chars, IsUtf8, all_scalars}
use Rattle.std.proofs.lemmas.Bool.Decides.{nat_tests}
use Rattle.std.proofs.lemmas.Str.{IsUtf8-append, IsUtf8-nil, chars-append, chars_past_char, encodes-chars, scalars-chars, length-encode, len_utf8_bounds, length-le-encodes}
use Rattle.unicode_width.specs.Width.{char_width}
use Rattle.unicode_segmentation.proofs.Computing.{unicode_segmentation}
use Rattle.unicode_segmentation.proofs.TextLemmas.{IsUtf8-after, chars-encode_utf8}
use Rattle.scm_cells.specs.Clusters.{clusters, text_width}
use Rattle.scm_cells.specs.Replaced.{replacement, pieces_from, line_pieces, last_piece}
use Rattle.scm_cells.proofs.BoundLemmas.{text_width-le}
use Rattle.scm_cells.proofs.ReplacedLemmas.{pieces_from-stays, pieces_from-replaced, pieces_from-end}
use Rattle.scm_front_paint.specs.LineEnds.{BeginsPlain, EndsPlain, IsEndOf, IsPlain, IsShownEnd, shown_text}
use Rattle.scm_front_paint.proofs.ApartLemmas.{clusters-apart}

-- ---- a line by its characters

-- a character as a screen shows it
abbrev pub shown_char : ℕ → List ℕ
shown_char c = unwrap_or (replacement c) (encode_utf8 c)

abbrev pub shown_chars : List ℕ → List ℕ
shown_chars [] = []
shown_chars (c ∷ cs) = shown_char c ++ shown_chars cs

shown_chars-append : (cs ds : List ℕ) → shown_chars (cs ++ ds) ≡ shown_chars cs ++ shown_chars ds
shown_chars-append [] ds = refl
shown_chars-append (c ∷ cs) ds = ap (λ t. shown_char c ++ t) (shown_chars-append cs ds) ∙ sym (append_assoc (shown_char c) (shown_chars cs) (shown_chars ds))

last_piece-joined : (piece : List ℕ) → concat (last_piece piece) ≡ piece
last_piece-joined [] = refl
last_piece-joined (b ∷ bs) = append-nil (b ∷ bs)

pieces-joined : (piece cs : List ℕ) → concat (pieces_from piece cs) ≡ piece ++ shown_chars cs
pieces-joined piece [] = ap concat (pieces_from-end piece) ∙ last_piece-joined piece ∙ sym (append-nil piece)
pieces-joined piece (c ∷ cs) = by_replacement (replacement c) refl (pieces-joined [] cs) (pieces-joined (piece ++ encode_utf8 c) cs)
  where
    by_replacement : (o : Option (List ℕ)) → replacement c ≡ o → concat (pieces_from [] cs) ≡ shown_chars cs
        → concat (pieces_from (piece ++ encode_utf8 c) cs) ≡ (piece ++ encode_utf8 c) ++ shown_chars cs → concat (pieces_from piece (c ∷ cs)) ≡ piece ++ (shown_char c ++ shown_chars cs)
    by_replacement (Some r) e after longer =
        ap concat (pieces_from-replaced piece r c cs e) ∙ ap (λ t. piece ++ (r ++ t)) after
        ∙ sym (ap (λ (o : Option (List ℕ)). piece ++ (unwrap_or o (encode_utf8 c) ++ shown_chars cs)) e)
    by_replacement None e after longer =
        ap concat (pieces_from-stays piece c cs e) ∙ longer ∙ append_assoc piece (encode_utf8 c) (shown_chars cs)
        ∙ sym (ap (λ (o : Option (List ℕ)). piece ++ (unwrap_or o (encode_utf8 c) ++ shown_chars cs)) e)

shown-is : (line : List ℕ) → shown_text line ≡ shown_chars (chars line)
unfolding line_pieces
shown-is line = pieces-joined [] (chars line)

-- the parts of a line are shown one after the other
pub shown-append : (front back : List ℕ) → IsUtf8 front → shown_text (front ++ back) ≡ shown_text front ++ shown_text back
shown-append front back u =
    shown-is (front ++ back) ∙ ap shown_chars (chars-append front back u) ∙ shown_chars-append (chars front) (chars back)
    ∙ sym (ap₂ ◌++◌ (shown-is front) (shown-is back))

-- ---- UTF-8, and bounds

-- a text is UTF-8 of at most eight bytes
record IsShort (text : List ℕ) : Type 0 where
  utf8 : IsUtf8 text
  few : length text ≤ 8

short-char : (c : ℕ) → all_scalars (c ∷ []) ≡ true → IsShort (encode_utf8 c)
short-char c s = record { utf8 = (c ∷ [], (s, append-nil (encode_utf8 c))); few = omega (arith, length-encode c, (len_utf8_bounds c).1) }

-- an arrow and three spaces
short-tab : IsShort (encode_utf8 0x2192 ++ 0x20 ∷ 0x20 ∷ 0x20 ∷ [])
unfolding unicode_segmentation
short-tab = record { utf8 = (0x2192 ∷ 0x20 ∷ 0x20 ∷ 0x20 ∷ [], (refl, refl)); few = omega arith }

control-picture : (c : ℕ) → nat_lt c 0x20 ≡ true → all_scalars ((0x2400 + c) ∷ []) ≡ true
control-picture c h = grind (arith, nat_tests)

either-short : (b : Bool) (x r : List ℕ) (o : Option (List ℕ)) → (if b then Some x else o) ≡ Some r → (b ≡ true → IsShort x) → (o ≡ Some r → IsShort r) → IsShort r
either-short true x r o e h k = let same : x ≡ r = cc e in subst IsShort same (h refl)
either-short false x r o e h k = k e

short-replacement : (c : ℕ) (r : List ℕ) → replacement c ≡ Some r → IsShort r
unfolding replacement
short-replacement c r e =
    either-short (c == 0x09) _ r _ e (λ _. short-tab)
    (λ e. either-short (c == 0x0A) _ r _ e (λ _. short-char 0x23CE refl)
    (λ e. either-short (nat_lt c 0x20) _ r _ e (λ low. short-char (0x2400 + c) (control-picture c low))
    (λ e. either-short (c == 0x7F) _ r _ e (λ _. short-char 0x2421 refl)
    (λ e. either-short (unwrap_or (char_width false c) 0 == 0) _ r _ e (λ _. short-char 0xFFFD refl) (λ none. absurd (cc none))))))

both-parts : (a b : Bool) → (a && b) ≡ true → ((a && true) ≡ true) × (b ≡ true)
both-parts true b h = (refl, h)
both-parts false b h = absurd (cc h)

-- the first of some characters, and the others
scalar-parts : (c : ℕ) (cs : List ℕ) → all_scalars (c ∷ cs) ≡ true → (all_scalars (c ∷ []) ≡ true) × (all_scalars cs ≡ true)
scalar-parts c cs s = both-parts _ (all_scalars cs) s

short-shown : (c : ℕ) → all_scalars (c ∷ []) ≡ true → IsShort (shown_char c)
short-shown c s = go (replacement c) refl
  where
    go : (o : Option (List ℕ)) → replacement c ≡ o → IsShort (unwrap_or o (encode_utf8 c))
    go (Some r) e = short-replacement c r e
    go None e = short-char c s

utf8-shown : (cs : List ℕ) → all_scalars cs ≡ true → IsUtf8 (shown_chars cs)
utf8-shown [] s = IsUtf8-nil
utf8-shown (c ∷ cs) s =
    let parts = scalar-parts c cs s in
    IsUtf8-append (shown_char c) (shown_chars cs) (short-shown c parts.0).utf8 (utf8-shown cs parts.1)

-- a line with its replacements is UTF-8
utf8-shown_text : (line : List ℕ) → IsUtf8 line → IsUtf8 (shown_text line)
utf8-shown_text line u = subst IsUtf8 (sym (shown-is line)) (utf8-shown (chars line) (scalars-chars line u))

length-shown : (cs : List ℕ) → all_scalars cs ≡ true → length (shown_chars cs) ≤ 8 * length cs
length-shown [] s = omega arith
length-shown (c ∷ cs) s =
    let parts = scalar-parts c cs s in
    let first = (short-shown c parts.0).few in
    let rest = length-shown cs parts.1 in
    omega (arith, first, rest, length-append (shown_char c) (shown_chars cs))

-- and takes at most 32 columns for each of its bytes
width-shown_text : (line : List ℕ) → IsUtf8 line → text_width (shown_text line) ≤ 32 * length line
width-shown_text line u =
    let many = length-shown (chars line) (scalars-chars line u) in
    let bytes = length-le-encodes (chars line) in
    let same = ap length (encodes-chars line u) in
    let shown = ap length (shown-is line) in
    let wide = text_width-le (shown_text line) in
    omega (arith, many, bytes, same, shown, wide)

-- ---- the first and the last character that is shown

pub begins-shown : (line rest : List ℕ) (c : ℕ) → IsUtf8 line → line ≡ encode_utf8 c ++ rest → replacement c ≡ None → IsPlain c → BeginsPlain (shown_text line)
begins-shown line rest c u e none p =
    let cs : chars line ≡ c ∷ chars rest = chars_past_char line rest c u e in
    let scalar = (scalar-parts c (chars rest) (sym (ap all_scalars cs) ∙ scalars-chars line u)).0 in
    let here : shown_char c ≡ encode_utf8 c = ap (λ (o : Option (List ℕ)). unwrap_or o (encode_utf8 c)) none in
    let shown : shown_text line ≡ encode_utf8 c ++ shown_chars (chars rest) = shown-is line ∙ ap shown_chars cs ∙ ap (λ t. t ++ shown_chars (chars rest)) here in
    record {
      first = c;
      after = chars (shown_chars (chars rest));
      is = ap chars shown ∙ chars-append (encode_utf8 c) (shown_chars (chars rest)) (short-char c scalar).utf8 ∙ ap (λ t. t ++ chars (shown_chars (chars rest))) (chars-encode_utf8 c (short-char c scalar).utf8);
      plain = p;
    }

pub begins-replaced : (line rest r : List ℕ) (c : ℕ) → IsUtf8 line → line ≡ encode_utf8 c ++ rest → replacement c ≡ Some r → BeginsPlain r → BeginsPlain (shown_text line)
begins-replaced line rest r c u e some p =
    let cs : chars line ≡ c ∷ chars rest = chars_past_char line rest c u e in
    let here : shown_char c ≡ r = ap (λ (o : Option (List ℕ)). unwrap_or o (encode_utf8 c)) some in
    let shown : shown_text line ≡ r ++ shown_chars (chars rest) = shown-is line ∙ ap shown_chars cs ∙ ap (λ t. t ++ shown_chars (chars rest)) here in
    record {
      first = p.first;
      after = p.after ++ chars (shown_chars (chars rest));
      is = ap chars shown ∙ chars-append r (shown_chars (chars rest)) (short-replacement c r some).utf8 ∙ ap (λ t. t ++ chars (shown_chars (chars rest))) p.is;
      plain = p.plain;
    }

pub begins-plain : (text rest : List ℕ) (c : ℕ) → IsUtf8 text → text ≡ encode_utf8 c ++ rest → IsPlain c → BeginsPlain text
begins-plain text rest c u e p = record { first = c; after = chars rest; is = chars_past_char text rest c u e; plain = p }

-- the characters of a line that ends with one
chars-last : (line front : List ℕ) (c : ℕ) → IsUtf8 front → IsUtf8 (encode_utf8 c) → line ≡ front ++ encode_utf8 c → chars line ≡ chars front ++ c ∷ []
chars-last line front c u v e = ap chars e ∙ chars-append front (encode_utf8 c) u ∙ ap (λ t. chars front ++ t) (chars-encode_utf8 c v)

pub ends-plain : (text front : List ℕ) (c : ℕ) → IsUtf8 text → IsUtf8 front → text ≡ front ++ encode_utf8 c → IsPlain c → EndsPlain text
ends-plain text front c w u e p =
    record { before = chars front; last = c; is = chars-last text front c u (IsUtf8-after text front (encode_utf8 c) w u e) e; plain = p }

shown-last : (line front : List ℕ) (c : ℕ) → IsUtf8 front → IsUtf8 (encode_utf8 c) → line ≡ front ++ encode_utf8 c → shown_text line ≡ shown_chars (chars front) ++ shown_char c
shown-last line front c u v e =
    shown-is line ∙ ap shown_chars (chars-last line front c u v e) ∙ shown_chars-append (chars front) (c ∷ [])
    ∙ ap (λ t. shown_chars (chars front) ++ t) (append-nil (shown_char c))

ends-with : (line front r : List ℕ) (c : ℕ) → IsUtf8 front → IsUtf8 (encode_utf8 c) → line ≡ front ++ encode_utf8 c → shown_char c ≡ r → EndsPlain r → EndsPlain (shown_text line)
ends-with line front r c u v e here p =
    let before = shown_chars (chars front) in
    record {
      before = chars before ++ p.before;
      last = p.last;
      is = ap chars (shown-last line front c u v e ∙ ap (λ t. before ++ t) here)
          ∙ chars-append before r (utf8-shown (chars front) (scalars-chars front u))
          ∙ ap (λ t. chars before ++ t) p.is
          ∙ sym (append_assoc (chars before) p.before (p.last ∷ []));
      plain = p.plain;
    }

pub ends-shown : (line front : List ℕ) (c : ℕ) → IsUtf8 line → IsUtf8 front → line ≡ front ++ encode_utf8 c → replacement c ≡ None → IsPlain c → EndsPlain (shown_text line)
ends-shown line front c w u e none p =
    let v = IsUtf8-after line front (encode_utf8 c) w u e in
    ends-with line front (encode_utf8 c) c u v e (ap (λ (o : Option (List ℕ)). unwrap_or o (encode_utf8 c)) none) (record { before = []; last = c; is = chars-encode_utf8 c v; plain = p })

pub ends-replaced : (line front r : List ℕ) (c : ℕ) → IsUtf8 line → IsUtf8 front → line ≡ front ++ encode_utf8 c → replacement c ≡ Some r → EndsPlain r → EndsPlain (shown_text line)
ends-replaced line front r c w u e some p =
    let v = IsUtf8-after line front (encode_utf8 c) w u e in
    ends-with line front r c u v e (ap (λ (o : Option (List ℕ)). unwrap_or o (encode_utf8 c)) some) p

-- ---- what is shown of a line that is cut

-- the end of a line shows the last columns of the line, if it has as many
pub shown-end : (columns : ℕ) (end line shown : List ℕ) → IsUtf8 line → IsEndOf end line → length line ≤ 30000000 → shown ≡ shown_text end → columns ≤ text_width shown
    → IsShownEnd columns shown (shown_text line)
shown-end columns end line shown u e few is wide =
    let parts : shown_text line ≡ shown_text e.front ++ shown_text end = ap shown_text e.joined ∙ shown-append e.front end e.utf8 in
    let bound = width-shown_text line u in
    record {
      front = shown_text e.front;
      clusters_are =
          ap clusters parts
          ∙ clusters-apart (shown_text e.front) (shown_text end) (utf8-shown_text e.front e.utf8) e.front_ends e.end_begins
          ∙ ap (λ t. clusters (shown_text e.front) ++ clusters t) (sym is);
      wide = wide;
      narrow = omega (arith, bound, few);
    }
