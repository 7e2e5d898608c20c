-- A text of printable ASCII, a frame's lines and marks: each character is a cluster of one column.
use Rattle.std.proofs.Common.{◌≡◌, ℕ, zero, suc, ◌+◌, ◌-◌, ◌<◌, ◌≤◌, Bool, true, false, not, ◌||◌, ◌&&◌, ◌==◌, List, [], ◌∷◌, ◌++◌, length, map, refl, sym, ap, ap₂, subst, ◌∙◌, arith, Option, Some, None, encode_utf8, encode_utf8_all, append-nil, unwrap_or, ◌⊎◌, ⊎_elim, drop, get_or, length-drop, sum_by}
use Rattle.std.specs.Prelude.{if◌then◌else◌}
use Rattle.std.specs.Str.{chars, IsUtf8}
use Rattle.std.specs.Int.{is_in_range}
use Rattle.std.proofs.lemmas.Str.{chars-nil, chars_past_char, encodes-chars, length-le-encodes, IsUtf8-past_char}
use Rattle.std.proofs.lemmas.List.{drop-drop, nil_from_length}
use Rattle.std.proofs.lemmas.List.Sums.{sum_by-cons}
use Rattle.std.specs.List.{list_all}
use Rattle.std.proofs.lemmas.Bool.{and_parts, and_right, or_cases}
use Rattle.std.proofs.lemmas.Bool.Decides.{nat_tests}
use Rattle.ucd_breaks.specs.GraphemeClusterBreak.{grapheme_cluster_break}
use Rattle.ucd_breaks.specs.declared.GraphemeClusterBreak.TheVariants.{Other}
use Rattle.ucd_breaks.proofs.Computing.{ucd_breaks}
use Rattle.unicode_segmentation.specs.Grapheme.{is_grapheme_break, break_by_pair, joins_conjunct, joins_emoji, joins_flag, is_zwj}
use Rattle.unicode_segmentation.specs.Segments.{cut, segments}
use Rattle.unicode_segmentation.proofs.Computing.{unicode_segmentation}
use Rattle.unicode_segmentation.proofs.GraphemeLemmas.{is_grapheme_break-inside, is_grapheme_break-others, joins_emoji-not_zwj}
use Rattle.unicode_width.proofs.Computing.{unicode_width}
use Rattle.scm_cells.specs.Cell.{Cell, byte_cell, char_cell}
use Rattle.scm_cells.specs.Cluster.{Cluster}
use Rattle.scm_cells.specs.Clusters.{clusters, visible_clusters, visible_width, has_control, with_width, text_width}
use Rattle.scm_cells.specs.FrameText.{is_frame_line, is_mark, is_drawn, is_frame_char, is_frame_text, frame_width, chars_as_clusters}
use Rattle.scm_cells.proofs.PrintableLemmas.{is_printable_char, printable-ascii, printable-class, printable-kept, printable-encodes}
use Rattle.scm_cells.proofs.WrittenLemmas.{by_stop}

-- ---- a line of a frame, and a mark

is_it : (P : ℕ → Type 0) (c n : ℕ) → P n → (c == n) ≡ true → P c
is_it P c n p q = let same : n ≡ c = grind (arith, nat_tests) in subst P same p

one : (P : ℕ → Type 0) (c n : ℕ) (rest : Bool) → P n → (rest ≡ true → P c) → (rest || (c == n)) ≡ true → P c
one P c n rest p earlier q = ⊎_elim earlier (is_it P c n p) (or_cases rest (c == n) q)

-- what holds of each line holds of a character that is one
by_line : (P : ℕ → Type 0) → P 0x2500 → P 0x2502 → P 0x250C → P 0x2510 → P 0x2514 → P 0x2518 → (c : ℕ) → is_frame_line c ≡ true → P c
by_line P a b d e f g c h = one P c 0x2518 _ g (one P c 0x2514 _ f (one P c 0x2510 _ e (one P c 0x250C _ d (one P c 0x2502 _ b (is_it P c 0x2500 a))))) h

-- and of a mark
by_mark : (P : ℕ → Type 0) → P 0xB1 → P 0x2022 → P 0x2026 → P 0x2190 → P 0x2191 → P 0x2192 → P 0x2193 → P 0x22EE → P 0x23CE → P 0x25CF → P 0x25D0 → P 0xFFFD
    → (c : ℕ) → is_mark c ≡ true → P c
by_mark P a b d e f g i j k l m n c h =
    one P c 0xFFFD _ n (one P c 0x25D0 _ m (one P c 0x25CF _ l (one P c 0x23CE _ k (one P c 0x22EE _ j (one P c 0x2193 _ i (one P c 0x2192 _ g
    (one P c 0x2191 _ f (one P c 0x2190 _ e (one P c 0x2026 _ d (one P c 0x2022 _ b (is_it P c 0xB1 a))))))))))) h

by_drawn : (P : ℕ → Type 0) (c : ℕ) → (is_frame_line c ≡ true → P c) → (is_mark c ≡ true → P c) → is_drawn c ≡ true → P c
by_drawn P c f g h = ⊎_elim f g (or_cases (is_frame_line c) (is_mark c) h)

line-class : (c : ℕ) → is_drawn c ≡ true → Other ≡ grapheme_cluster_break c
unfolding ucd_breaks
line-class c = by_drawn (λ d. Other ≡ grapheme_cluster_break d) c (by_line (λ d. Other ≡ grapheme_cluster_break d) refl refl refl refl refl refl c)
    (by_mark (λ d. Other ≡ grapheme_cluster_break d) refl refl refl refl refl refl refl refl refl refl refl refl c)

line-conjunct : (before : List ℕ) (c : ℕ) → is_drawn c ≡ true → joins_conjunct before c ≡ false
unfolding unicode_segmentation
line-conjunct before c = by_drawn (λ d. joins_conjunct before d ≡ false) c
    (by_line (λ d. joins_conjunct before d ≡ false) (and_right _ _ refl) (and_right _ _ refl) (and_right _ _ refl) (and_right _ _ refl) (and_right _ _ refl) (and_right _ _ refl) c)
    (by_mark (λ d. joins_conjunct before d ≡ false) (and_right _ _ refl) (and_right _ _ refl) (and_right _ _ refl) (and_right _ _ refl) (and_right _ _ refl)
    (and_right _ _ refl) (and_right _ _ refl) (and_right _ _ refl) (and_right _ _ refl) (and_right _ _ refl) (and_right _ _ refl) (and_right _ _ refl) c)

line-flag : (before : List ℕ) (c : ℕ) → is_drawn c ≡ true → joins_flag before c ≡ false
unfolding ucd_breaks
line-flag before c = by_drawn (λ d. joins_flag before d ≡ false) c
    (by_line (λ d. joins_flag before d ≡ false) (and_right _ _ refl) (and_right _ _ refl) (and_right _ _ refl) (and_right _ _ refl) (and_right _ _ refl) (and_right _ _ refl) c)
    (by_mark (λ d. joins_flag before d ≡ false) (and_right _ _ refl) (and_right _ _ refl) (and_right _ _ refl) (and_right _ _ refl) (and_right _ _ refl)
    (and_right _ _ refl) (and_right _ _ refl) (and_right _ _ refl) (and_right _ _ refl) (and_right _ _ refl) (and_right _ _ refl) (and_right _ _ refl) c)

line-kept : (c : ℕ) → is_drawn c ≡ true → with_width (encode_utf8 c) ≡ Some (encode_utf8 c, 1)
unfolding with_width visible_width has_control unicode_width
line-kept c = by_drawn (λ d. with_width (encode_utf8 d) ≡ Some (encode_utf8 d, 1)) c (by_line (λ d. with_width (encode_utf8 d) ≡ Some (encode_utf8 d, 1)) refl refl refl refl refl refl c)
    (by_mark (λ d. with_width (encode_utf8 d) ≡ Some (encode_utf8 d, 1)) refl refl refl refl refl refl refl refl refl refl refl refl c)

-- ---- a character of a frame's text is a cluster

drawn_or_printable : (c : ℕ) → is_frame_char c ≡ true → (is_printable_char c ≡ true) ⊎ (is_drawn c ≡ true)
drawn_or_printable c h = or_cases (is_printable_char c) (is_drawn c) (sym (or_assoc (is_printable_char c) (is_frame_line c) (is_mark c)) ∙ h)
  where
    or_assoc : (x y z : Bool) → (x || y || z) ≡ (x || (y || z))
    or_assoc true y z = refl
    or_assoc false y z = refl

lone-class : (c : ℕ) → is_frame_char c ≡ true → Other ≡ grapheme_cluster_break c
lone-class c h = ⊎_elim (printable-class c) (line-class c) (drawn_or_printable c h)

lone-kept : (c : ℕ) → is_frame_char c ≡ true → with_width (encode_utf8 c) ≡ Some (encode_utf8 c, 1)
lone-kept c h = ⊎_elim (λ p. rw (printable-encodes c p) (printable-kept c p)) (line-kept c) (drawn_or_printable c h)

no_pair : (extended b : Bool) → unwrap_or (break_by_pair extended Other Other) b ≡ b
no_pair true b = refl
no_pair false b = refl

-- a line or a mark begins a cluster after a lone character
line-begins : (c d : ℕ) (before after : List ℕ) → is_frame_char c ≡ true → is_drawn d ≡ true → is_grapheme_break true (c ∷ before) (d ∷ after) ≡ true
line-begins c d before after h g =
    let left = lone-class c h in
    let right = line-class d g in
    let rest = not ((true && joins_conjunct (c ∷ before) d) || joins_emoji (c ∷ before) d || joins_flag (c ∷ before) d) in
    let emoji = joins_emoji-not_zwj (c ∷ before) d (ap is_zwj (sym left)) in
    is_grapheme_break-inside true (c ∷ before) d after (omega arith)
    ∙ ap₂ (λ l r. unwrap_or (break_by_pair true l r) rest) (sym left) (sym right) ∙ no_pair true rest
    ∙ ap not (ap₂ ◌||◌ (ap₂ ◌||◌ (line-conjunct (c ∷ before) d g) emoji) (line-flag (c ∷ before) d g))

lone-begins : (c d : ℕ) (before after : List ℕ) → is_frame_char c ≡ true → is_frame_char d ≡ true → is_grapheme_break true (c ∷ before) (d ∷ after) ≡ true
lone-begins c d before after h g =
    ⊎_elim
    (λ p. let small = printable-ascii d p in sym (is_grapheme_break-others true (c ∷ before) d after (omega arith) (omega (arith, small)) (lone-class c h) (printable-class d p)))
    (line-begins c d before after h)
    (drawn_or_printable d g)

lone-breaks : (c : ℕ) (before cs : List ℕ) → is_frame_char c ≡ true → list_all is_frame_char cs ≡ true → is_grapheme_break true (c ∷ before) (cs ++ []) ≡ true
unfolding is_grapheme_break
lone-breaks c before [] h g = refl
lone-breaks c before (d ∷ cs) h g = lone-begins c d before (cs ++ []) h (and_parts (is_frame_char d) (list_all is_frame_char cs) g).0

-- ---- a text of them

kept-lone_first : (c : ℕ) (pieces : List (List ℕ)) → is_frame_char c ≡ true → visible_clusters (encode_utf8_all (c ∷ []) ∷ pieces) ≡ (encode_utf8 c, 1) ∷ visible_clusters pieces
unfolding visible_clusters
kept-lone_first c pieces h = rw (append-nil (encode_utf8 c), lone-kept c h) refl

cut-lone : (cs before : List ℕ) → list_all is_frame_char cs ≡ true → visible_clusters (map encode_utf8_all (cut (is_grapheme_break true) before cs [])) ≡ chars_as_clusters cs
unfolding cut visible_clusters chars_as_clusters
cut-lone [] before h = refl
cut-lone (c ∷ cs) before h =
    let parts = and_parts (is_frame_char c) (list_all is_frame_char cs) h in
    rw (lone-breaks c before cs parts.0 parts.1)
    (kept-lone_first c (map encode_utf8_all (cut (is_grapheme_break true) (c ∷ before) cs [])) parts.0 ∙ ap (λ t. (encode_utf8 c, 1) ∷ t) (cut-lone cs (c ∷ before) parts.1))

pub clusters-frame_text : (text : List ℕ) → is_frame_text text ≡ true → clusters text ≡ chars_as_clusters (chars text)
unfolding clusters segments
clusters-frame_text text h = cut-lone (chars text) [] h

-- ---- one character after another

-- `rest` is what follows the first `i` characters of the text
pub record IsAt (text : List ℕ) (i : ℕ) (rest : List ℕ) : Type 0 where
  pub utf8 : IsUtf8 rest
  pub left : chars rest ≡ drop i (chars text)

pub IsAt-none : (text rest : List ℕ) → IsUtf8 text → rest ≡ text → IsAt text 0 rest
IsAt-none text rest u e = record { utf8 = subst IsUtf8 (sym e) u; left = ap chars e }

pub IsAt-more : (text rest next : List ℕ) (i c : ℕ) → IsAt text i rest → rest ≡ encode_utf8 c ++ next → IsAt text (i + 1) next
IsAt-more text rest next i c h e = record {
  utf8 = IsUtf8-past_char rest next c h.utf8 e;
  left = ap (drop 1) (sym (chars_past_char rest next c h.utf8 e) ∙ h.left) ∙ drop-drop 1 i (chars text);
}

read-drop : (cs more : List ℕ) (i c : ℕ) → drop i cs ≡ c ∷ more → get_or cs i 0 ≡ c
read-drop cs more zero c e = ap (λ t. get_or t 0 0) e
read-drop [] more (suc i) c e = absurd (cc e)
read-drop (x ∷ xs) more (suc i) c e = read-drop xs more i c e

pub IsAt-read : (text rest next : List ℕ) (i c : ℕ) → IsAt text i rest → rest ≡ encode_utf8 c ++ next → get_or (chars text) i 0 ≡ c
IsAt-read text rest next i c h e = read-drop (chars text) (chars next) i c (sym h.left ∙ chars_past_char rest next c h.utf8 e)

pub IsAt-within : (text rest next : List ℕ) (i c : ℕ) → IsAt text i rest → rest ≡ encode_utf8 c ++ next → i < length (chars text)
IsAt-within text rest next i c h e = omega (arith, length-drop i (chars text), ap length (sym h.left ∙ chars_past_char rest next c h.utf8 e))

no_chars : (rest : List ℕ) → length rest ≡ 0 → chars rest ≡ []
no_chars rest none = ap chars (nil_from_length rest none) ∙ chars-nil

pub IsAt-end : (text rest : List ℕ) (i : ℕ) → IsAt text i rest → length rest ≡ 0 → length (chars text) ≤ i
IsAt-end text rest i h none = omega (arith, length-drop i (chars text), ap length (sym h.left ∙ no_chars rest none))

-- ---- how many there are

and_true : (a b : Bool) → a ≡ true → (a && b) ≡ b
and_true a b e = rw e refl

not_and : (a b : Bool) → a ≡ false → (a && b) ≡ false
not_and a b e = rw e refl

-- the first `n` characters of the text are of a frame's text
pub record IsFrameTo (text : List ℕ) (n : ℕ) (rest : List ℕ) : Type 0 where
  pub at : IsAt text n rest
  pub tests : is_frame_text text ≡ is_frame_text rest
  pub within : n ≤ length (chars text)

pub IsFrameTo-none : (text rest : List ℕ) → IsUtf8 text → rest ≡ text → IsFrameTo text 0 rest
IsFrameTo-none text rest u e = record { at = IsAt-none text rest u e; tests = ap is_frame_text (sym e); within = omega arith }

pub IsFrameTo-more : (text rest next : List ℕ) (n c : ℕ) → IsFrameTo text n rest → rest ≡ encode_utf8 c ++ next → is_frame_char c ≡ true → IsFrameTo text (n + 1) next
IsFrameTo-more text rest next n c h e ok = record {
  at = IsAt-more text rest next n c h.at e;
  tests = h.tests ∙ ap (list_all is_frame_char) (chars_past_char rest next c h.at.utf8 e) ∙ and_true (is_frame_char c) (is_frame_text next) ok;
  within = omega (arith, IsAt-within text rest next n c h.at e);
}

pub frame_width-none : (text rest next : List ℕ) (n c : ℕ) → IsFrameTo text n rest → rest ≡ encode_utf8 c ++ next → is_frame_char c ≡ false → None ≡ frame_width text
frame_width-none text rest next n c h e fails =
    let other : is_frame_text text ≡ false = h.tests ∙ ap (list_all is_frame_char) (chars_past_char rest next c h.at.utf8 e) ∙ not_and (is_frame_char c) (is_frame_text next) fails in
    rw other refl

pub frame_width-all : (text rest : List ℕ) (n : ℕ) → IsFrameTo text n rest → length rest ≡ 0 → Some n ≡ frame_width text
frame_width-all text rest n h none =
    let all : is_frame_text text ≡ true = h.tests ∙ ap (list_all is_frame_char) (no_chars rest none) in
    let size : n ≡ length (chars text) = omega (arith, h.within, IsAt-end text rest n h.at none) in
    rw all (ap Some size)

pub chars_le : (text : List ℕ) → IsUtf8 text → length (chars text) ≤ length text
chars_le text u = subst (λ (t : List ℕ). length (chars text) ≤ length t) (encodes-chars text u) (length-le-encodes (chars text))

sized : (b : Bool) (n k : ℕ) → ◌≡◌ {A = Option ℕ} (if b then Some n else None) (Some k) → (b ≡ true) × (n ≡ k)
sized true n k e = (refl, cc e)
sized false n k e = absurd (cc e)

pub frame_sized : (text : List ℕ) (n : ℕ) → frame_width text ≡ Some n → (is_frame_text text ≡ true) × (length (chars text) ≡ n)
frame_sized text n e = sized (is_frame_text text) (length (chars text)) n e

width-chars : (cs : List ℕ) → sum_by (λ c. c.1) (chars_as_clusters cs) ≡ length cs
unfolding chars_as_clusters
width-chars [] = refl
width-chars (c ∷ cs) = let e = width-chars cs in sum_by-cons (λ (k : Cluster). k.1) (encode_utf8 c, 1) (chars_as_clusters cs) ∙ omega (arith, e)

pub text_width-frame : (text : List ℕ) (n : ℕ) → frame_width text ≡ Some n → text_width text ≡ n
unfolding text_width
text_width-frame text n e =
    let frame = frame_sized text n e in
    ap (sum_by (λ c. c.1)) (clusters-frame_text text frame.0) ∙ width-chars (chars text) ∙ frame.1

-- ---- a character in a column

-- the columns of a character of a frame's text are its own
pub in_place : (c : ℕ) (s : List ℕ) → is_frame_char c ≡ true
    → ◌≡◌ {A = Cell} (if is_in_range 0x20 0x7E c then byte_cell c else record { symbol = if is_drawn c then encode_utf8 c else s; width = 1; offset = 0 }) (char_cell c)
in_place c s h =
    by_stop (is_in_range 0x20 0x7E c) refl
    (λ byte. let same = printable-encodes c byte in rw (byte, same) refl)
    (λ other. let drawn : is_drawn c ≡ true = ⊎_elim (λ p. absurd (cc (p, other))) (λ d. d) (drawn_or_printable c h) in rw (other, drawn) refl)
