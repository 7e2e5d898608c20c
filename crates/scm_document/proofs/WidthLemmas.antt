-- The columns of texts, by their bytes and by their pieces.
use Rattle.std.proofs.Common.{◌≡◌, ℕ, zero, suc, ◌+◌, ◌-◌, ◌/◌, ◌%◌, ◌^◌, ◌<◌, ◌≤◌, Bool, true, false, List, [], ◌∷◌, ◌++◌, length, refl, sym, ap, subst, ◌∙◌, arith, decimal, encode_utf8, Some, None, append_assoc, append-nil, length-append, take, drop, slice_range}
use Rattle.std.specs.Prelude.{codes, if◌then◌else◌, ◌==◌}
use Rattle.std.specs.Fmt.{digits, digits_onto, digit_glyph}
use Rattle.std.specs.Str.{chars, IsUtf8, IsCharBoundary}
use Rattle.std.proofs.lemmas.Bool.Decides.{nat_tests}
use Rattle.std.proofs.lemmas.Fmt.{decimal_step, decimal_nonempty, length-decimal-le}
use Rattle.std.proofs.lemmas.List.{nil_from_length, take_at, drop_at}
use Rattle.std.proofs.lemmas.List.Folds.{list_all-append}
use Rattle.std.proofs.lemmas.List.Sums.{sum_by-cons}
use Rattle.std.proofs.lemmas.Str.{chars_past_char, chars-nil, IsUtf8-append, IsUtf8-from_ascii, IsUtf8-past_char, IsCharBoundary-at_seam}
use Rattle.std.proofs.lemmas.Str.Ascii.{IsAscii-nil, IsAscii-cons}
use Rattle.scm_cells.specs.Cluster.{is_printable}
use Rattle.scm_cells.specs.Clusters.{text_width}
use Rattle.scm_cells.specs.Replaced.{replacement, pieces_from, line_pieces, last_piece}
use Rattle.scm_cells.proofs.PrintableLemmas.{is_printable_char, text_width-printable}
use Rattle.scm_cells.proofs.ReplacedLemmas.{pieces_from-stays, pieces_from-replaced}
use Rattle.scm_render.specs.Drawing.{texts_width}
use Rattle.scm_document.specs.Texts.{section_text, number_text, path_text}
use Rattle.scm_widgets.proofs.SeamLemmas.{spaces, printable-spaces, length-spaces, IsSeam-space, IsUtf8-seam, text_width-seam}

-- ---- printable texts

pub printable-append : (a b : List ℕ) → is_printable a ≡ true → is_printable b ≡ true → is_printable (a ++ b) ≡ true
printable-append a b h g = list_all-append is_printable_char a b ∙ rw (h, g) refl

printable-glyph : (d : ℕ) → d < 10 → is_printable_char (digit_glyph false d) ≡ true
printable-glyph d h = grind (arith, nat_tests)

printable-onto : (k base n : ℕ) (acc : List ℕ) → ((m : ℕ) → m % base < 10) → is_printable acc ≡ true → is_printable (digits_onto k base false n acc) ≡ true
printable-onto zero base n acc small h = h
printable-onto (suc k) base n acc small h =
    let more : is_printable (digit_glyph false (n % base) ∷ acc) ≡ true = rw (printable-glyph (n % base) (small n)) h in
    either (n / base == 0) _ _ more (printable-onto k base (n / base) _ small more)
  where
    either : (b : Bool) (xs ys : List ℕ) → is_printable xs ≡ true → is_printable ys ≡ true → is_printable (if b then xs else ys) ≡ true
    either true xs ys p q = p
    either false xs ys p q = q

printable-decimal : (n : ℕ) → is_printable (decimal n) ≡ true
unfolding digits
printable-decimal n = printable-onto 64 10 n [] (λ m. omega arith) refl

-- ---- how many digits a number has

pub decimal-short : (n : ℕ) → n < 2 ^ 64 → length (decimal n) ≤ 20
decimal-short n h = length-decimal-le 20 n (omega arith) (omega arith) h

pub decimal-last : (n : ℕ) → n < 10 → length (decimal n) ≡ 1
decimal-last n h = let some = decimal_nonempty n (omega arith) in let most = length-decimal-le 1 n (omega arith) (omega arith) (omega arith) in omega (arith, some, most)

pub decimal-more : (n : ℕ) → 10 ≤ n → n < 2 ^ 64 → length (decimal n) ≡ length (decimal (n / 10)) + 1
decimal-more n h g = ap length (decimal_step n h g) ∙ length-append (decimal (n / 10)) ((48 + n % 10) ∷ [])

-- ---- the columns of texts that are numbers and fixed words

pub width-number : (n : ℕ) → text_width (number_text n) ≡ (5 - length (decimal n)) + (length (decimal n) + 1)
width-number n =
    let gap = spaces (5 - length (decimal n)) in
    let shown = printable-append gap (decimal n ++ 32 ∷ []) (printable-spaces (5 - length (decimal n))) (printable-append (decimal n) (32 ∷ []) (printable-decimal n) refl) in
    let whole = length-append gap (decimal n ++ 32 ∷ []) in
    let digits = length-append (decimal n) (32 ∷ []) in
    text_width-printable (number_text n) shown ∙ omega (arith, whole, digits, length-spaces (5 - length (decimal n)))

pub width-section : (n m : ℕ) → text_width (section_text n m) ≡ 9 + (length (decimal n) + length (decimal m))
width-section n m =
    let rest = codes "/" ++ decimal m in
    let shown = printable-append (codes "Section ") (decimal n ++ rest) refl (printable-append (decimal n) rest (printable-decimal n) (printable-append (codes "/") (decimal m) refl (printable-decimal m))) in
    let whole = length-append (codes "Section ") (decimal n ++ rest) in
    let numbers = length-append (decimal n) rest in
    let last = length-append (codes "/") (decimal m) in
    text_width-printable (section_text n m) shown ∙ omega (arith, whole, numbers, last)

-- ---- the columns of texts beside characters that join none

pub width-path : (old path : List ℕ) → IsUtf8 old → IsUtf8 path → text_width (path_text (Some old) path) ≡ text_width old + 4 + text_width path
width-path old path u v =
    let arrow : List ℕ = 0x3D ∷ (0x3E ∷ []) in
    let ascii = IsUtf8-from_ascii arrow (IsAscii-cons 0x3D (0x3E ∷ []) (omega arith) (IsAscii-cons 0x3E [] (omega arith) IsAscii-nil)) in
    let first = text_width-seam 0x20 IsSeam-space old (arrow ++ 0x20 ∷ path) u (IsUtf8-append arrow (0x20 ∷ path) ascii (IsUtf8-seam 0x20 IsSeam-space path v)) in
    let second = text_width-seam 0x20 IsSeam-space arrow path ascii v in
    let own : text_width arrow ≡ 2 = text_width-printable arrow refl in
    omega (arith, first, second, own)

-- ---- the columns of a line, measured piece by piece

-- `read` bytes of the line were read; the last ones, from byte `start` on, are a piece that is not measured yet
pub record HasMeasured (line : List ℕ) (start read width : ℕ) (rest : List ℕ) : Type 0 where
  pub before : List ℕ
  pub piece : List ℕ
  pub begun : length before ≡ start
  pub size : length before + length piece ≡ read
  pub utf8 : IsUtf8 rest
  pub tail : IsUtf8 (piece ++ rest)
  pub parts : line ≡ before ++ (piece ++ rest)
  pub sum : width + texts_width (pieces_from piece (chars rest)) ≡ texts_width (line_pieces line)

pub measured-none : (line rest : List ℕ) → IsUtf8 line → rest ≡ line → HasMeasured line 0 0 0 rest
unfolding line_pieces
measured-none line rest u e =
    let same : IsUtf8 rest = subst IsUtf8 (sym e) u in
    record { before = []; piece = []; begun = refl; size = refl; utf8 = same; tail = same; parts = sym e; sum = let same : texts_width (pieces_from [] (chars rest)) ≡ texts_width (pieces_from [] (chars line)) = ap (λ t. texts_width (pieces_from [] (chars t))) e in omega (arith, same) }

pub measured-stays : (line rest next : List ℕ) (start read width end c : ℕ) → HasMeasured line start read width rest → rest ≡ encode_utf8 c ++ next → end ≡ read + length (encode_utf8 c) → replacement c ≡ None
    → HasMeasured line start end width next
measured-stays line rest next start read width end c h first e none =
    let same : h.piece ++ rest ≡ (h.piece ++ encode_utf8 c) ++ next = ap (λ t. h.piece ++ t) first ∙ sym (append_assoc h.piece (encode_utf8 c) next) in
    record {
      before = h.before;
      piece = h.piece ++ encode_utf8 c;
      begun = h.begun;
      size = omega (arith, length-append h.piece (encode_utf8 c), h.size, e);
      utf8 = IsUtf8-past_char rest next c h.utf8 first;
      tail = subst IsUtf8 same h.tail;
      parts = h.parts ∙ ap (λ t. h.before ++ t) same;
      sum = ap (λ t. width + texts_width t) (sym (ap (pieces_from h.piece) (chars_past_char rest next c h.utf8 first) ∙ pieces_from-stays h.piece c (chars next) none)) ∙ h.sum;
    }

-- the piece that is not measured yet
pub measured-piece : (line rest : List ℕ) (start read width : ℕ) (h : HasMeasured line start read width rest) → slice_range line start read ≡ h.piece
measured-piece line rest start read width h =
    let size : read - start ≡ length h.piece = omega (arith, h.begun, h.size) in
    ap (λ n. take n (drop start line)) size ∙ ap (λ t. take (length h.piece) (drop start t)) h.parts
    ∙ ap (take (length h.piece)) (drop_at h.before (h.piece ++ rest) start h.begun) ∙ take_at h.piece rest (length h.piece) refl

two-widths : (a b : List ℕ) (more : List (List ℕ)) → texts_width (a ∷ (b ∷ more)) ≡ (text_width a + text_width b) + texts_width more
unfolding texts_width
two-widths a b more = let first = sum_by-cons text_width a (b ∷ more) in let second = sum_by-cons text_width b more in omega (arith, first, second)

-- what a replaced character and the piece before it add
pub measured-sum : (line rest next r front : List ℕ) (start read width c : ℕ) → HasMeasured line start read width rest → rest ≡ encode_utf8 c ++ next → replacement c ≡ Some r → front ≡ slice_range line start read
    → (width + (text_width front + text_width r)) + texts_width (pieces_from [] (chars next)) ≡ texts_width (line_pieces line)
measured-sum line rest next r front start read width c h first some at =
    let same : front ≡ h.piece = at ∙ measured-piece line rest start read width h in
    let cut : pieces_from h.piece (chars rest) ≡ front ∷ (r ∷ pieces_from [] (chars next)) =
    ap (pieces_from h.piece) (chars_past_char rest next c h.utf8 first) ∙ pieces_from-replaced h.piece r c (chars next) some ∙ ap (λ t. t ∷ (r ∷ pieces_from [] (chars next))) (sym same) in
    let all = ap texts_width cut in
    let two = two-widths front r (pieces_from [] (chars next)) in
    omega (arith, all, two, h.sum)

pub measured-cut : (line rest next r front : List ℕ) (start read width end c : ℕ) → HasMeasured line start read width rest → rest ≡ encode_utf8 c ++ next → end ≡ read + length (encode_utf8 c) → replacement c ≡ Some r
    → front ≡ slice_range line start read → HasMeasured line end end (width + (text_width front + text_width r)) next
measured-cut line rest next r front start read width end c h first e some at =
    let utf8 = IsUtf8-past_char rest next c h.utf8 first in
    let own = length-append h.piece (encode_utf8 c) in
    let begun : length (h.before ++ (h.piece ++ encode_utf8 c)) ≡ end = omega (arith, length-append h.before (h.piece ++ encode_utf8 c), own, h.size, e) in
    record {
      before = h.before ++ (h.piece ++ encode_utf8 c);
      piece = [];
      begun = begun;
      size = omega (arith, begun);
      utf8 = utf8;
      tail = utf8;
      parts = h.parts ∙ ap (λ t. h.before ++ (h.piece ++ t)) first ∙ ap (λ t. h.before ++ t) (sym (append_assoc h.piece (encode_utf8 c) next)) ∙ sym (append_assoc h.before (h.piece ++ encode_utf8 c) next);
      sum = measured-sum line rest next r front start read width c h first some at;
    }

width-last : (piece : List ℕ) → texts_width (last_piece piece) ≡ text_width piece
unfolding texts_width
width-last [] = sym (text_width-printable [] refl)
width-last (b ∷ bs) = let e = sum_by-cons text_width (b ∷ bs) [] in omega (arith, e)

-- no character is left: the last piece is the rest of the line
pub measured-end : (line rest front : List ℕ) (start read width : ℕ) → HasMeasured line start read width rest → length rest ≡ 0 → front ≡ drop start line → width + text_width front ≡ texts_width (line_pieces line)
unfolding pieces_from
measured-end line rest front start read width h e at =
    let none : rest ≡ [] = nil_from_length rest e in
    let same : front ≡ h.piece = at ∙ ap (drop start) h.parts ∙ drop_at h.before (h.piece ++ rest) start h.begun ∙ ap (λ t. h.piece ++ t) none ∙ append-nil h.piece in
    let left : pieces_from h.piece (chars rest) ≡ last_piece h.piece = ap (λ t. pieces_from h.piece (chars t)) none ∙ ap (pieces_from h.piece) chars-nil in
    let last = ap texts_width left ∙ width-last h.piece in
    let own = ap text_width same in
    omega (arith, last, own, h.sum)

pub measured-start : (line rest : List ℕ) (start read width : ℕ) → HasMeasured line start read width rest → IsCharBoundary line start
measured-start line rest start read width h = subst (IsCharBoundary line) h.begun (IsCharBoundary-at_seam line h.before (h.piece ++ rest) h.parts h.tail)

pub measured-read : (line rest : List ℕ) (start read width : ℕ) → HasMeasured line start read width rest → IsCharBoundary line read
measured-read line rest start read width h =
    subst (IsCharBoundary line) (length-append h.before h.piece ∙ h.size) (IsCharBoundary-at_seam line (h.before ++ h.piece) rest (h.parts ∙ sym (append_assoc h.before h.piece rest)) h.utf8)
