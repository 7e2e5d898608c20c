-- A text of printable ASCII is its own list of clusters: each byte is one, of one column.
use Rattle.std.proofs.Common.{◌≡◌, ℕ, zero, suc, ◌+◌, ◌<◌, Bool, true, false, not, ◌||◌, ◌==◌, List, [], ◌∷◌, ◌++◌, length, map, refl, sym, ap, ap₂, ◌∙◌, arith, Some, sum_by, encode_utf8, encode_utf8_all, take, take_all, drop, subst, length-take, ◌≤◌}
use Rattle.std.specs.Prelude.{nat_lt, position, unwrap_or}
use Rattle.std.specs.List.{position_or_len}
use Rattle.std.specs.Int.{is_in_range}
use Rattle.std.specs.Str.{chars, IsAscii}
use Rattle.std.proofs.lemmas.Bool.{and_parts}
use Rattle.std.proofs.lemmas.Bool.Decides.{nat_tests}
use Rattle.std.proofs.lemmas.Str.{chars-IsAscii, encode_ascii}
use Rattle.std.proofs.lemmas.List.{take-take}
use Rattle.std.proofs.lemmas.List.Folds.{list_all-append}
use Rattle.std.proofs.lemmas.List.Sums.{sum_by-cons}
use Rattle.std.proofs.Math.Seq.{take-add}
use Rattle.std.proofs.lemmas.Str.Ascii.{IsAscii-nil, IsAscii-cons}
use Rattle.ucd_table.proofs.Facts.{Stepped-below}
use Rattle.ucd_breaks.specs.GraphemeClusterBreak.{grapheme_cluster_break, grapheme_cluster_break_number}
use Rattle.ucd_breaks.specs.declared.GraphemeClusterBreak.TheVariants.{Other}
use Rattle.ucd_breaks.proofs.Computing.{ucd_breaks}
use Rattle.ucd_breaks.proofs.GraphemeClusterBreakLemmas.{grapheme_cluster_break_stepped, grapheme_cluster_break_number_injective}
use Rattle.unicode_segmentation.specs.Grapheme.{is_grapheme_break}
use Rattle.unicode_segmentation.specs.Segments.{cut, segments}
use Rattle.unicode_segmentation.proofs.GraphemeLemmas.{is_grapheme_break-others}
use Rattle.unicode_width.specs.Width.{str_width}
use Rattle.unicode_width.proofs.Rules.{str_width-printable}
use Rattle.scm_cells.specs.Cluster.{Cluster, is_printable, is_unprintable, bytes_as_clusters}
use Rattle.scm_cells.specs.Clusters.{clusters, visible_clusters, visible_width, has_control, with_width, text_width}

-- ---- a printable character

abbrev pub is_printable_char : ℕ → Bool
is_printable_char = is_in_range 0x20 0x7E

pub printable-ascii : (c : ℕ) → is_printable_char c ≡ true → c < 128
printable-ascii c h = grind (arith, nat_tests)

pub printable-encodes : (c : ℕ) → is_printable_char c ≡ true → encode_utf8 c ≡ c ∷ []
printable-encodes c h = encode_ascii c (printable-ascii c h)

pub IsAscii-printable : (cs : List ℕ) → is_printable cs ≡ true → IsAscii cs
IsAscii-printable [] h = IsAscii-nil
IsAscii-printable (c ∷ cs) h = let parts = and_parts (is_printable_char c) (is_printable cs) h in IsAscii-cons c cs (printable-ascii c parts.0) (IsAscii-printable cs parts.1)

pub chars-printable : (text : List ℕ) → is_printable text ≡ true → chars text ≡ text
chars-printable text h = chars-IsAscii text (IsAscii-printable text h)

-- whether a character is not printable, or this is the class of one that is
abbrev is_printable_class : ℕ → ℕ → Bool
is_printable_class c class = not (is_printable_char c) || (class == grapheme_cluster_break_number Other)

pub printable-class : (c : ℕ) → is_printable_char c ≡ true → Other ≡ grapheme_cluster_break c
unfolding ucd_breaks
printable-class c h =
    let checked : is_printable_class c (grapheme_cluster_break_number (grapheme_cluster_break c)) ≡ true =
    Stepped-below grapheme_cluster_break grapheme_cluster_break_stepped (λ x v. is_printable_class x (grapheme_cluster_break_number v)) 128 refl c (printable-ascii c h) in
    grapheme_cluster_break_number_injective _ _ (grind (arith, nat_tests))

pub printable-kept : (c : ℕ) → is_printable_char c ≡ true → with_width (c ∷ []) ≡ Some (c ∷ [], 1)
unfolding with_width visible_width has_control
printable-kept c h =
    let one : is_printable (c ∷ []) ≡ true = rw h refl in
    let same = chars-printable (c ∷ []) one in
    let width : str_width false (chars (c ∷ [])) ≡ 1 = rw same (str_width-printable false (c ∷ []) one) in
    grind (arith, nat_tests)

-- ---- a text of printable characters

pub printable-breaks : (c : ℕ) (before cs : List ℕ) → is_printable_char c ≡ true → is_printable cs ≡ true → is_grapheme_break true (c ∷ before) (cs ++ []) ≡ true
unfolding is_grapheme_break
printable-breaks c before [] h g = refl
printable-breaks c before (d ∷ cs) h g =
    let parts = and_parts (is_printable_char d) (is_printable cs) g in
    let small = printable-ascii d parts.0 in
    sym (is_grapheme_break-others true (c ∷ before) d (cs ++ []) (omega arith) (omega arith) (printable-class c h) (printable-class d parts.0))

kept-printable_first : (c : ℕ) (pieces : List (List ℕ)) → is_printable_char c ≡ true → visible_clusters (encode_utf8_all (c ∷ []) ∷ pieces) ≡ (c ∷ [], 1) ∷ visible_clusters pieces
unfolding visible_clusters
kept-printable_first c pieces h = rw (printable-encodes c h, printable-kept c h) refl

cut-printable : (cs before : List ℕ) → is_printable cs ≡ true → visible_clusters (map encode_utf8_all (cut (is_grapheme_break true) before cs [])) ≡ bytes_as_clusters cs
unfolding cut visible_clusters bytes_as_clusters
cut-printable [] before h = refl
cut-printable (c ∷ cs) before h =
    let parts = and_parts (is_printable_char c) (is_printable cs) h in
    rw (printable-breaks c before cs parts.0 parts.1)
    (kept-printable_first c (map encode_utf8_all (cut (is_grapheme_break true) (c ∷ before) cs [])) parts.0 ∙ ap (λ t. (c ∷ [], 1) ∷ t) (cut-printable cs (c ∷ before) parts.1))

pub clusters-printable : (text : List ℕ) → is_printable text ≡ true → clusters text ≡ bytes_as_clusters text
unfolding clusters segments
clusters-printable text h = ap (λ cs. visible_clusters (map encode_utf8_all (cut (is_grapheme_break true) [] cs []))) (chars-printable text h) ∙ cut-printable text [] h

pub width-bytes_as_clusters : (text : List ℕ) → sum_by (λ c. c.1) (bytes_as_clusters text) ≡ length text
unfolding bytes_as_clusters
width-bytes_as_clusters [] = refl
width-bytes_as_clusters (b ∷ bs) = let e = width-bytes_as_clusters bs in sum_by-cons (λ (c : Cluster). c.1) (b ∷ [], 1) (bytes_as_clusters bs) ∙ omega (arith, e)

pub text_width-printable : (text : List ℕ) → is_printable text ≡ true → text_width text ≡ length text
unfolding text_width
text_width-printable text h = ap (sum_by (λ c. c.1)) (clusters-printable text h) ∙ width-bytes_as_clusters text

-- ---- one byte after another

pub bytes_as_clusters-none : (text : List ℕ) → length text ≡ 0 → bytes_as_clusters text ≡ []
unfolding bytes_as_clusters
bytes_as_clusters-none [] e = refl
bytes_as_clusters-none (b ∷ bs) e = cc

pub bytes_as_clusters-more : (text front back : List ℕ) → 0 < length text → front ≡ take 1 text → back ≡ drop 1 text → bytes_as_clusters text ≡ (front, 1) ∷ bytes_as_clusters back
unfolding bytes_as_clusters
bytes_as_clusters-more [] front back some f g = absurd (omega arith)
bytes_as_clusters-more (b ∷ bs) front back some f g = ap₂ (λ t u. (t, 1) ∷ bytes_as_clusters u) (sym f) (sym g)

-- ---- the bytes before the first that is not printable

printable-byte : (b : ℕ) → is_unprintable b ≡ false → is_printable_char b ≡ true
printable-byte b h = grind (arith, nat_tests)

printable-more : (b : ℕ) (bs : List ℕ) → is_printable_char b ≡ true → is_printable bs ≡ true → is_printable (b ∷ bs) ≡ true
printable-more b bs h g = rw h g

one_more : (n : ℕ) → 1 + n ≡ suc n
one_more n = omega arith

printable-passed : (text : List ℕ) → is_printable (take (position_or_len is_unprintable text) text) ≡ true
printable-passed [] = refl
printable-passed (b ∷ bs) = by_test (is_unprintable b) refl (printable-passed bs)
  where
    by_test : (t : Bool) → is_unprintable b ≡ t → is_printable (take (position_or_len is_unprintable bs) bs) ≡ true → is_printable (take (position_or_len is_unprintable (b ∷ bs)) (b ∷ bs)) ≡ true
    by_test true e more = rw e refl
    by_test false e more = rw (e, one_more (position_or_len is_unprintable bs)) (printable-more b (take (position_or_len is_unprintable bs) bs) (printable-byte b e) more)

pub printable-front : (text : List ℕ) → is_printable (take (unwrap_or (position is_unprintable text) (length text)) text) ≡ true
printable-front text = by_test (nat_lt (position_or_len is_unprintable text) (length text)) refl
  where
    by_test : (t : Bool) → nat_lt (position_or_len is_unprintable text) (length text) ≡ t → is_printable (take (unwrap_or (position is_unprintable text) (length text)) text) ≡ true
    by_test true e = rw e (printable-passed text)
    by_test false e =
        let all : length text ≤ position_or_len is_unprintable text = grind (arith, nat_tests) in
        rw (e, take_all (length text) text (omega arith)) (rw (take_all (position_or_len is_unprintable text) text all) at (printable-passed text))

-- the bytes before it are printable ones at the beginning, and those before it in the rest
position-passed : (text : List ℕ) (n : ℕ) → n ≤ length text → is_printable (take n text) ≡ true → position_or_len is_unprintable text ≡ n + position_or_len is_unprintable (drop n text)
position-passed text zero le h = let same : position_or_len is_unprintable (drop 0 text) ≡ position_or_len is_unprintable text = refl in omega (arith, same)
position-passed [] (suc n) le h = absurd (omega (arith, le))
position-passed (b ∷ bs) (suc n) le h =
    let parts = and_parts (is_printable_char b) (is_printable (take n bs)) h in
    let passed : is_unprintable b ≡ false = let first = parts.0 in grind (arith, nat_tests) in
    rw (passed, position-passed bs n (omega (arith, le)) parts.1) (omega arith)

position-le : (text : List ℕ) → position_or_len is_unprintable text ≤ length text
position-le [] = omega arith
position-le (b ∷ bs) = by_test (is_unprintable b) refl (position-le bs)
  where
    by_test : (t : Bool) → is_unprintable b ≡ t → position_or_len is_unprintable bs ≤ length bs → position_or_len is_unprintable (b ∷ bs) ≤ length (b ∷ bs)
    by_test true e le = rw e (omega arith)
    by_test false e le = rw e (omega (arith, le))

count-position : (text : List ℕ) → unwrap_or (position is_unprintable text) (length text) ≡ position_or_len is_unprintable text
count-position text = by_test (nat_lt (position_or_len is_unprintable text) (length text)) refl
  where
    by_test : (t : Bool) → nat_lt (position_or_len is_unprintable text) (length text) ≡ t → unwrap_or (position is_unprintable text) (length text) ≡ position_or_len is_unprintable text
    by_test true e = rw e refl
    by_test false e = let le = position-le text in let all : length text ≤ position_or_len is_unprintable text = grind (arith, nat_tests) in rw e (omega (arith, le, all))

pub count-passed : (text : List ℕ) (n : ℕ) → n ≤ length text → is_printable (take n text) ≡ true
    → n + unwrap_or (position is_unprintable (drop n text)) (length (drop n text)) ≡ unwrap_or (position is_unprintable text) (length text)
count-passed text n le h = ap (λ k. n + k) (count-position (drop n text)) ∙ sym (position-passed text n le h) ∙ sym (count-position text)

-- a block of printable bytes after printable ones
pub printable-block : (text : List ℕ) (n m : ℕ) → is_printable (take n text) ≡ true → is_printable (take m (drop n text)) ≡ true → is_printable (take (n + m) text) ≡ true
printable-block text n m h g = rw (take-add n m text, list_all-append is_printable_char (take n text) (take m (drop n text)), h, g) refl

pub count-le : (text : List ℕ) → unwrap_or (position is_unprintable text) (length text) ≤ length text
count-le text = let le = position-le text in omega (arith, le, count-position text)

-- the same of the first bytes of a text
pub printable-first : (text near : List ℕ) (n m : ℕ) → near ≡ take m text → n ≡ unwrap_or (position is_unprintable near) (length near) → is_printable (take n text) ≡ true
printable-first text near n m e count =
    let le : n ≤ length near = subst (λ k. k ≤ length near) (sym count) (count-le near) in
    let within : n ≤ m = omega (arith, le, ap length e, length-take m text) in
    let same : take n near ≡ take n text = ap (take n) e ∙ take-take n m text within in
    subst (λ t. is_printable t ≡ true) (ap (λ k. take k near) (sym count) ∙ same) (printable-front near)
