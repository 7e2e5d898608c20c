use Rattle.std.proofs.Common.{◌*◌, ◌≤◌, Bool, true, false, sum_by, ◌≡◌, ℕ, ◌+◌, List, [], ◌∷◌, ◌++◌, length, encode_utf8, Option, Some, None, refl, sym, ap, ◌∙◌, ◌<◌, arith, append_assoc, append-nil, length-append, length-take-le, take, take_at, take-append-drop, drop, drop-cons, subst, slice_range, ◌-◌, suc, get_or, ap₂}
use Rattle.std.specs.Prelude.{if◌then◌else◌, nat_lt, ◌==◌, position, unwrap_or}
use Rattle.std.specs.List.{list_all}
use Rattle.std.specs.Str.{chars, IsUtf8, IsCharBoundary, all_scalars}
use Rattle.std.proofs.lemmas.Bool.{and_parts}
use Rattle.std.proofs.lemmas.Bool.Decides.{nat_tests}
use Rattle.std.proofs.lemmas.List.Sums.{sum_by-cons}
use Rattle.unicode_segmentation.proofs.Computing.{unicode_segmentation}
use Rattle.unicode_width.proofs.Computing.{unicode_width}
use Rattle.unicode_width.proofs.Rules.{is_simple, width_or_zero, str_width-simple, str_width-printable}
use Rattle.unicode_width.specs.Width.{char_width}
use Rattle.std.proofs.lemmas.List.{nil_from_length, drop_all}
use Rattle.std.proofs.lemmas.Str.{encode_ascii, chars_past_char, chars-nil, IsUtf8-past_char, length-encode, len_utf8_bounds, IsCharBoundary-at_seam}
use Rattle.scm_cells.specs.Cluster.{is_printable, is_unprintable}
use Rattle.scm_cells.proofs.PrintableLemmas.{is_printable_char, printable-encodes, printable-front, count-le}
use Rattle.scm_cells.specs.Clusters.{text_width, clusters, visible_clusters, with_width, visible_width, has_control}
use Rattle.scm_cells.proofs.BoundLemmas.{size, size-some, sizes-le, encode-size, text_width-le, text_width-utf8}
use Rattle.scm_cells.specs.Replaced.{replacement, pieces_from, line_pieces, last_piece, printable_line}

-- the first `n` bytes of the line have no replaced character, and `rest` follows
pub record HasRead (line : List ℕ) (n : ℕ) (rest : List ℕ) : Type 0 where
  pub read : List ℕ
  pub size : length read ≡ n
  pub utf8 : IsUtf8 rest
  pub parts : line ≡ read ++ rest
  pub pieces : line_pieces line ≡ pieces_from read (chars rest)

-- the replacement of a known character
pub replacement-at : (c n : ℕ) (r : Option (List ℕ)) → c ≡ n → r ≡ replacement n → r ≡ replacement c
replacement-at c n r e at = at ∙ ap replacement (sym e)

HasRead-none : (line rest : List ℕ) → IsUtf8 line → rest ≡ line → HasRead line 0 rest
unfolding line_pieces
HasRead-none line rest u e =
    record { read = []; size = refl; utf8 = subst IsUtf8 (sym e) u; parts = sym e; pieces = ap (λ t. pieces_from [] (chars t)) (sym e) }

pub pieces_from-stays : (piece : List ℕ) (c : ℕ) (cs : List ℕ) → replacement c ≡ None → pieces_from piece (c ∷ cs) ≡ pieces_from (piece ++ encode_utf8 c) cs
unfolding pieces_from
pieces_from-stays piece c cs e = rw e refl

pub pieces_from-replaced : (piece r : List ℕ) (c : ℕ) (cs : List ℕ) → replacement c ≡ Some r → pieces_from piece (c ∷ cs) ≡ piece ∷ (r ∷ pieces_from [] cs)
unfolding pieces_from
pieces_from-replaced piece r c cs e = rw e refl

pub HasRead-more : (line rest next : List ℕ) (n m c : ℕ) → HasRead line n rest → rest ≡ encode_utf8 c ++ next → m ≡ n + length (encode_utf8 c) → replacement c ≡ None → HasRead line m next
HasRead-more line rest next n m c h first size e = record {
  read = h.read ++ encode_utf8 c;
  size = omega (arith, length-append h.read (encode_utf8 c), h.size);
  utf8 = IsUtf8-past_char rest next c h.utf8 first;
  parts = h.parts ∙ ap (λ t. h.read ++ t) first ∙ sym (append_assoc h.read (encode_utf8 c) next);
  pieces = h.pieces ∙ ap (pieces_from h.read) (chars_past_char rest next c h.utf8 first) ∙ pieces_from-stays h.read c (chars next) e;
}

-- ---- printable ASCII stays

width-printable : (c : ℕ) → is_printable_char c ≡ true → unwrap_or (char_width false c) 0 ≡ 1
width-printable c h =
    let one : is_printable (c ∷ []) ≡ true = rw h refl in
    let simple : list_all is_simple (c ∷ []) ≡ true = rw h refl in
    let sum = sum_by-cons (width_or_zero false) c [] in
    omega (arith, sum, str_width-simple false (c ∷ []) simple, str_width-printable false (c ∷ []) one)

printable-stays : (c : ℕ) → is_printable_char c ≡ true → replacement c ≡ None
unfolding replacement
printable-stays c h = let one = width-printable c h in grind (arith, nat_tests)

pub replacement-printable : (c : ℕ) → 0x20 ≤ c → c < 0x7F → None ≡ replacement c
replacement-printable c low high = sym (printable-stays c (grind (arith, nat_tests)))

HasRead-printable : (line p rest : List ℕ) (n m : ℕ) → HasRead line n (p ++ rest) → is_printable p ≡ true → m ≡ n + length p → HasRead line m rest
HasRead-printable line [] rest n m h g e = let same : n ≡ m = omega arith in subst (λ k. HasRead line k rest) same h
HasRead-printable line (c ∷ cs) rest n m h g e =
    let parts = and_parts (is_printable_char c) (is_printable cs) g in
    let one = printable-encodes c parts.0 in
    HasRead-printable line cs rest (n + 1) m (HasRead-more line (c ∷ (cs ++ rest)) (cs ++ rest) n (n + 1) c h (ap (λ t. t ++ (cs ++ rest)) (sym one)) (omega (arith, ap length one)) (printable-stays c parts.0)) parts.1 (omega arith)

-- printable bytes were read
pub HasRead-first : (line rest : List ℕ) (n : ℕ) → IsUtf8 line → n ≤ length line → is_printable (take n line) ≡ true → rest ≡ drop n line → HasRead line n rest
HasRead-first line rest n u le printable e =
    HasRead-printable line (take n line) rest 0 n (HasRead-none line (take n line ++ rest) u (ap (λ t. take n line ++ t) e ∙ take-append-drop n line)) printable (omega (arith, length-take-le n line le))

-- the printable bytes before the first other one were read
pub HasRead-front : (line rest : List ℕ) (n : ℕ) → IsUtf8 line → n ≡ unwrap_or (position is_unprintable line) (length line) → rest ≡ drop n line → HasRead line n rest
HasRead-front line rest n u count e =
    let le : n ≤ length line = subst (λ k. k ≤ length line) (sym count) (count-le line) in
    let printable : is_printable (take n line) ≡ true = subst (λ k. is_printable (take k line) ≡ true) (sym count) (printable-front line) in
    HasRead-first line rest n u le printable e

-- a replaced character after the first `n` bytes of the line
pub pieces-cut : (line rest next r front : List ℕ) (n c : ℕ) → HasRead line n rest → rest ≡ encode_utf8 c ++ next → replacement c ≡ Some r → front ≡ slice_range line 0 n
    → line_pieces line ≡ front ∷ (r ∷ line_pieces next)
unfolding line_pieces
pieces-cut line rest next r front n c h first e at =
    let whole : n - 0 ≡ n = omega arith in
    let same : front ≡ h.read = at ∙ ap (λ k. take k line) whole ∙ ap (take n) h.parts ∙ take_at h.read rest n h.size in
    h.pieces ∙ ap (pieces_from h.read) (chars_past_char rest next c h.utf8 first) ∙ pieces_from-replaced h.read r c (chars next) e
    ∙ ap (λ t. t ∷ (r ∷ pieces_from [] (chars next))) (sym same)

pub pieces_from-end : (piece : List ℕ) → pieces_from piece [] ≡ last_piece piece
unfolding pieces_from
pieces_from-end piece = refl

-- no character is left
pub pieces-end : (line rest : List ℕ) (n : ℕ) → HasRead line n rest → length rest ≡ 0 → line_pieces line ≡ last_piece line
unfolding pieces_from
pieces-end line rest n h e =
    let none : rest ≡ [] = nil_from_length rest e in
    let all : line ≡ h.read = h.parts ∙ ap (λ t. h.read ++ t) none ∙ append-nil h.read in
    h.pieces ∙ ap (λ t. pieces_from h.read (chars t)) none ∙ ap (pieces_from h.read) chars-nil ∙ ap last_piece (sym all)

pub HasRead-boundary : (line rest : List ℕ) (n : ℕ) → HasRead line n rest → IsCharBoundary line n
HasRead-boundary line rest n h = subst (IsCharBoundary line) h.size (IsCharBoundary-at_seam line h.read rest h.parts h.utf8)

-- ---- a line of printable ASCII

no_pieces : line_pieces [] ≡ []
unfolding line_pieces pieces_from
no_pieces = ap (pieces_from []) chars-nil ∙ pieces_from-end []

-- the last byte of a line
last_byte : (line : List ℕ) (n : ℕ) → n + 1 ≡ length line → get_or line n 0 ≡ 10 → drop n line ≡ 10 ∷ []
last_byte line n size e =
    let none : drop (suc n) line ≡ [] = drop_all (suc n) line (omega (arith, size)) in
    drop-cons line n 0 (omega (arith, size)) ∙ ap₂ (λ x xs. x ∷ xs) e none

newline : Some (encode_utf8 0x23CE) ≡ replacement 10
unfolding replacement
newline = refl

pub pieces-printable : (line : List ℕ) (n : ℕ) → IsUtf8 line → n + 1 ≡ length line → get_or line n 0 ≡ 10 → is_printable (take n line) ≡ true
    → line_pieces line ≡ take n line ∷ (encode_utf8 0x23CE ∷ [])
pieces-printable line n u size e printable =
    let whole : n - 0 ≡ n = omega arith in
    let end : drop n line ≡ encode_utf8 10 ++ [] = last_byte line n size e ∙ sym (ap (λ t. t ++ []) (encode_ascii 10 (omega arith))) in
    pieces-cut line (drop n line) [] (encode_utf8 0x23CE) (take n line) n 10 (HasRead-first line (drop n line) n u (omega (arith, size)) printable refl) end (sym newline) (ap (λ k. take k line) (sym whole))
    ∙ ap (λ t. take n line ∷ (encode_utf8 0x23CE ∷ t)) no_pieces

pub printable_line-is : (line front : List ℕ) (n : ℕ) → n ≡ length line - 1 → get_or line n 0 ≡ 10 → front ≡ take n line → is_printable front ≡ true
    → Some (front, encode_utf8 0x23CE) ≡ printable_line line
printable_line-is line front n size e f p =
    let last : get_or line (length line - 1) 0 ≡ 10 = ap (λ k. get_or line k 0) (sym size) ∙ e in
    let same : front ≡ take (length line - 1) line = f ∙ ap (λ k. take k line) size in
    let printable : is_printable (take (length line - 1) line) ≡ true = ap is_printable (sym same) ∙ p in
    rw (last, printable) (ap (λ t. Some (t, encode_utf8 0x23CE)) same)

-- ---- columns

width-char : (c : ℕ) → all_scalars (c ∷ []) ≡ true → text_width (encode_utf8 c) ≤ 8
width-char c s =
    let e = text_width-utf8 (encode_utf8 c) (c ∷ [], (s, append-nil (encode_utf8 c))) in
    omega (arith, e, length-encode c, (len_utf8_bounds c).1)

width-tab : text_width (encode_utf8 0x2192 ++ 0x20 ∷ 0x20 ∷ 0x20 ∷ []) ≡ 4
unfolding text_width clusters visible_clusters with_width visible_width has_control unicode_segmentation unicode_width
width-tab = refl

control-picture : (c : ℕ) → nat_lt c 0x20 ≡ true → all_scalars ((0x2400 + c) ∷ []) ≡ true
control-picture c h = grind (arith, nat_tests)

either-width : (b : Bool) (x r : List ℕ) (o : Option (List ℕ)) → (if b then Some x else o) ≡ Some r → (b ≡ true → text_width x ≤ 8) → (o ≡ Some r → text_width r ≤ 8) → text_width r ≤ 8
either-width true x r o e h k = let same : x ≡ r = cc e in rw (sym same) (h refl)
either-width false x r o e h k = k e

width-replacement : (c : ℕ) (r : List ℕ) → replacement c ≡ Some r → text_width r ≤ 8
unfolding replacement
width-replacement c r e =
    either-width (c == 0x09) _ r _ e (λ _. let w = width-tab in omega (arith, w))
    (λ e. either-width (c == 0x0A) _ r _ e (λ _. width-char 0x23CE refl)
    (λ e. either-width (nat_lt c 0x20) _ r _ e (λ low. width-char (0x2400 + c) (control-picture c low))
    (λ e. either-width (c == 0x7F) _ r _ e (λ _. width-char 0x2421 refl)
    (λ e. either-width (unwrap_or (char_width false c) 0 == 0) _ r _ e (λ _. width-char 0xFFFD refl) (λ none. absurd (cc none))))))

width-pieces : (piece cs : List ℕ) → sum_by text_width (pieces_from piece cs) ≤ 4 * length piece + 8 * sum_by size cs
width-pieces [] [] = rw (pieces_from-end []) (omega arith)
width-pieces (b ∷ bs) [] =
    let e = sum_by-cons text_width (b ∷ bs) [] in
    let w = text_width-le (b ∷ bs) in
    rw (pieces_from-end (b ∷ bs)) (omega (arith, e, w))
width-pieces piece (c ∷ cs) = by_replacement (replacement c) refl (width-pieces [] cs) (width-pieces (piece ++ encode_utf8 c) cs)
  where
    by_replacement : (o : Option (List ℕ)) → replacement c ≡ o → sum_by text_width (pieces_from [] cs) ≤ 4 * 0 + 8 * sum_by size cs
        → sum_by text_width (pieces_from (piece ++ encode_utf8 c) cs) ≤ 4 * length (piece ++ encode_utf8 c) + 8 * sum_by size cs
        → sum_by text_width (pieces_from piece (c ∷ cs)) ≤ 4 * length piece + 8 * sum_by size (c ∷ cs)
    by_replacement (Some r) e after longer =
        let front = sum_by-cons text_width piece (r ∷ pieces_from [] cs) in
        let next = sum_by-cons text_width r (pieces_from [] cs) in
        let w = text_width-le piece in
        let v = width-replacement c r e in
        let sizes = sum_by-cons size c cs in
        let some = size-some c in
        rw (pieces_from-replaced piece r c cs e) (omega (arith, front, next, after, w, v, sizes, some))
    by_replacement None e after longer =
        let joined = length-append piece (encode_utf8 c) in
        let bytes = encode-size c in
        let sizes = sum_by-cons size c cs in
        rw (pieces_from-stays piece c cs e) (omega (arith, longer, joined, bytes, sizes))

-- the pieces of a line take at most eight columns for each of its bytes, whatever they are
pub text_width-line_pieces : (line : List ℕ) → sum_by text_width (line_pieces line) ≤ 8 * length line
unfolding line_pieces
text_width-line_pieces line = let e = width-pieces [] (chars line) in let f = sizes-le line in omega (arith, e, f)
