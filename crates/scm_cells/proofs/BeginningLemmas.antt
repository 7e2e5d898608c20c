-- Beginnings of texts: what follows a text changes no cluster but its last, and no piece of a line but its last.
use Rattle.std.proofs.Common.{◌≡◌, ℕ, ◌+◌, ◌-◌, ◌<◌, ◌≤◌, Bool, true, false, List, [], ◌∷◌, ◌++◌, length, map, take, drop, refl, sym, ap, ap₂, subst, ◌∙◌, arith, Option, Some, None, sum_by, encode_utf8, encode_utf8_all, inl, inr, append_assoc, append-nil, length-append, length-drop, length-take-le, take_at, drop_at, take-append-drop}
use Rattle.std.specs.Prelude.{if◌then◌else◌, unwrap_or, option_map, is_some}
use Rattle.std.specs.List.{concat}
use Rattle.std.specs.Str.{chars, IsUtf8, IsCharBoundary}
use Rattle.std.proofs.lemmas.Bool.{and_parts}
use Rattle.std.proofs.lemmas.List.{map-append, length-map, take-map}
use Rattle.std.proofs.lemmas.List.Elements.{filter_map-append}
use Rattle.std.proofs.lemmas.List.Folds.{concat-append, list_all-append}
use Rattle.std.proofs.lemmas.List.Sums.{sum_by-append, sum_by-cons}
use Rattle.std.proofs.lemmas.Str.{chars-append, encodes-append, encodes-chars, encodes_same, IsCharBoundary-at_seam}
use Rattle.unicode_segmentation.specs.Grapheme.{graphemes, is_grapheme_break}
use Rattle.unicode_segmentation.specs.Segments.{cut, prepend, segments}
use Rattle.unicode_segmentation.proofs.SegmentsLemmas.{concat-segments}
use Rattle.unicode_segmentation.proofs.TextLemmas.{IsUtf8-before}
use Rattle.scm_cells.specs.Beginnings.{IsBeginning, IsPlain, IsFirst, Adds}
use Rattle.scm_cells.specs.Cluster.{Cluster, is_printable}
use Rattle.scm_cells.specs.Clusters.{clusters, text_width, visible_clusters, with_width, visible_width}
use Rattle.scm_cells.specs.Laying.{columns_of}
use Rattle.scm_cells.specs.Replaced.{replacement, pieces_from, line_pieces}
use Rattle.scm_cells.proofs.PrintableLemmas.{is_printable_char, printable-breaks, chars-printable, text_width-printable}
use Rattle.scm_cells.proofs.ReplacedLemmas.{HasRead, HasRead-boundary, pieces_from-stays, pieces_from-replaced, pieces_from-end}
use Rattle.scm_cells.proofs.SingleLemmas.{begins-cut}

-- ---- pieces of characters

-- the characters, cut into clusters, after the characters `before`
abbrev cut_after : List ℕ → List ℕ → List (List ℕ)
cut_after before cs = cut (is_grapheme_break true) before cs []

-- whether a boundary stands between characters, the last of which is `last`, and the next one
abbrev splits : ℕ → List ℕ → ℕ → Bool
splits last before next = is_grapheme_break true (last ∷ before) (next ∷ [])

-- a character before pieces: a piece of its own, or the front of the first
abbrev glue : Bool → ℕ → List (List ℕ) → List (List ℕ)
glue b c pieces = if b then (c ∷ []) ∷ pieces else prepend (c ∷ []) pieces

cut-one : (before : List ℕ) (c : ℕ) → cut_after before (c ∷ []) ≡ (c ∷ []) ∷ []
unfolding cut is_grapheme_break
cut-one before c = refl

-- a boundary is decided by the characters before it and the next one alone
cut-two : (before : List ℕ) (c d : ℕ) (cs : List ℕ) → cut_after before (c ∷ (d ∷ cs)) ≡ glue (splits c before d) c (cut_after (c ∷ before) (d ∷ cs))
unfolding cut is_grapheme_break
cut-two before c d cs = refl

-- the pieces `ps`, of which more follow, stay the same if more characters follow, and if none do
record Stays (before cs more : List ℕ) (ps : List (List ℕ)) : Type 0 where
  rest : List (List ℕ)
  longer : cut_after before (cs ++ more) ≡ ps ++ rest
  alone : cut_after before (concat ps) ≡ ps

-- the first pieces without the character before them
abbrev Again : List ℕ → List ℕ → List ℕ → Type 0
Again before cs more = (ps qs : List (List ℕ)) → cut_after before cs ≡ ps ++ qs → 0 < length qs → Stays before cs more ps

-- a boundary before the character `d`
alone-apart : (before : List ℕ) (c d : ℕ) (first : List ℕ) (tail ps qs : List (List ℕ)) → splits c before d ≡ true → (d ∷ first) ∷ tail ≡ ps ++ qs
    → cut_after (c ∷ before) (concat ps) ≡ ps → cut_after before (c ∷ concat ps) ≡ (c ∷ []) ∷ ps
alone-apart before c d first tail [] qs s e alone = cut-one before c
alone-apart before c d first tail (p ∷ ps) qs s e alone =
    let own : d ∷ first ≡ p = cc e in
    let begins : d ∷ (first ++ concat ps) ≡ concat (p ∷ ps) = ap (λ t. t ++ concat ps) own in
    ap (λ t. cut_after before (c ∷ t)) (sym begins)
    ∙ cut-two before c d (first ++ concat ps)
    ∙ ap (λ b. glue b c (cut_after (c ∷ before) (d ∷ (first ++ concat ps)))) s
    ∙ ap (λ t. (c ∷ []) ∷ cut_after (c ∷ before) t) begins
    ∙ ap (λ t. (c ∷ []) ∷ t) alone

stays-apart : (before : List ℕ) (c d : ℕ) (cs more p : List ℕ) (ps qs : List (List ℕ)) → splits c before d ≡ true
    → (c ∷ []) ∷ cut_after (c ∷ before) (d ∷ cs) ≡ p ∷ (ps ++ qs) → 0 < length qs → Again (c ∷ before) (d ∷ cs) more → Stays before (c ∷ (d ∷ cs)) more (p ∷ ps)
stays-apart before c d cs more p ps qs s e some again =
    let own : c ∷ [] ≡ p = cc e in
    let rest : cut_after (c ∷ before) (d ∷ cs) ≡ ps ++ qs = cc e in
    let begun = begins-cut d (c ∷ before) cs in
    let h = again ps qs rest some in
    record {
      rest = h.rest;
      longer =
          cut-two before c d (cs ++ more)
          ∙ ap (λ b. glue b c (cut_after (c ∷ before) (d ∷ (cs ++ more)))) s
          ∙ ap₂ (λ x xs. x ∷ xs) own h.longer;
      alone =
          ap (λ x. cut_after before (x ++ concat ps)) (sym own)
          ∙ alone-apart before c d begun.first begun.more ps qs s (sym begun.is ∙ rest) h.alone
          ∙ ap (λ x. x ∷ ps) own;
    }

stays-joined : (before : List ℕ) (c d : ℕ) (cs more p : List ℕ) (ps qs : List (List ℕ)) → splits c before d ≡ false
    → prepend (c ∷ []) (cut_after (c ∷ before) (d ∷ cs)) ≡ p ∷ (ps ++ qs) → 0 < length qs → Again (c ∷ before) (d ∷ cs) more → Stays before (c ∷ (d ∷ cs)) more (p ∷ ps)
stays-joined before c d cs more p ps qs s e some again =
    let begun = begins-cut d (c ∷ before) cs in
    let first = begun.first in
    let parts : (c ∷ (d ∷ first)) ∷ begun.more ≡ p ∷ (ps ++ qs) = sym (ap (prepend (c ∷ [])) begun.is) ∙ e in
    let own : c ∷ (d ∷ first) ≡ p = cc parts in
    let rest : begun.more ≡ ps ++ qs = cc parts in
    let h = again ((d ∷ first) ∷ ps) qs (begun.is ∙ ap (λ t. (d ∷ first) ∷ t) rest) some in
    record {
      rest = h.rest;
      longer =
          cut-two before c d (cs ++ more)
          ∙ ap (λ b. glue b c (cut_after (c ∷ before) (d ∷ (cs ++ more)))) s
          ∙ ap (prepend (c ∷ [])) h.longer
          ∙ ap (λ x. x ∷ (ps ++ h.rest)) own;
      alone =
          ap (λ x. cut_after before (x ++ concat ps)) (sym own)
          ∙ cut-two before c d (first ++ concat ps)
          ∙ ap (λ b. glue b c (cut_after (c ∷ before) (d ∷ (first ++ concat ps)))) s
          ∙ ap (prepend (c ∷ [])) h.alone
          ∙ ap (λ x. x ∷ ps) own;
    }

stays-two : (before : List ℕ) (c d : ℕ) (cs more p : List ℕ) (ps qs : List (List ℕ)) → cut_after before (c ∷ (d ∷ cs)) ≡ p ∷ (ps ++ qs) → 0 < length qs → Again (c ∷ before) (d ∷ cs) more
    → Stays before (c ∷ (d ∷ cs)) more (p ∷ ps)
stays-two before c d cs more p ps qs e some again = go (splits c before d) refl
  where
    parts : (b : Bool) → splits c before d ≡ b → glue b c (cut_after (c ∷ before) (d ∷ cs)) ≡ p ∷ (ps ++ qs)
    parts b s = sym (ap (λ x. glue x c (cut_after (c ∷ before) (d ∷ cs))) s) ∙ sym (cut-two before c d cs) ∙ e

    go : (b : Bool) → splits c before d ≡ b → Stays before (c ∷ (d ∷ cs)) more (p ∷ ps)
    go true s = stays-apart before c d cs more p ps qs s (parts true s) some again
    go false s = stays-joined before c d cs more p ps qs s (parts false s) some again

stays-none : (before cs more : List ℕ) → Stays before cs more []
unfolding cut
stays-none before cs more = record { rest = cut_after before (cs ++ more); longer = refl; alone = refl }

-- no characters have no pieces, and one has one
cut-none : (before p : List ℕ) (ps qs : List (List ℕ)) → cut_after before [] ≡ p ∷ (ps ++ qs) → ⊥
unfolding cut
cut-none before p ps qs e = absurd (cc e)

cut-single : (before p : List ℕ) (c : ℕ) (ps qs : List (List ℕ)) → cut_after before (c ∷ []) ≡ p ∷ (ps ++ qs) → 0 < length qs → ⊥
cut-single before p c ps qs e some =
    let none : [] ≡ ps ++ qs = cc (sym (cut-one before c) ∙ e) in
    omega (arith, some, ap length none, length-append ps qs)

stays : (cs before more : List ℕ) (ps qs : List (List ℕ)) → cut_after before cs ≡ ps ++ qs → 0 < length qs → Stays before cs more ps
stays cs before more [] qs e some = stays-none before cs more
stays [] before more (p ∷ ps) qs e some = absurd (cut-none before p ps qs e)
stays (c ∷ []) before more (p ∷ ps) qs e some = absurd (cut-single before p c ps qs e some)
stays (c ∷ (d ∷ cs)) before more (p ∷ ps) qs e some = stays-two before c d cs more p ps qs e some (stays (d ∷ cs) (c ∷ before) more)

-- ---- clusters of a text

visible-append : (ps qs : List (List ℕ)) → visible_clusters (ps ++ qs) ≡ visible_clusters ps ++ visible_clusters qs
unfolding visible_clusters
visible-append ps qs = filter_map-append with_width ps qs

-- the pieces `ps` of the characters of a text, of which more follow: the text begins with the clusters of their characters, whatever follows it
begins-at : (text first : List ℕ) (ps qs : List (List ℕ)) → IsUtf8 text → cut_after [] (chars text) ≡ ps ++ qs → 0 < length qs → chars first ≡ concat ps
    → (after : List ℕ) → (more : List Cluster) × (clusters (text ++ after) ≡ clusters first ++ more)
unfolding clusters segments
begins-at text first ps qs u e some own after =
    let h = stays (chars text) [] (chars after) ps qs e some in
    let alone : visible_clusters (map encode_utf8_all (cut_after [] (chars first))) ≡ visible_clusters (map encode_utf8_all ps) =
    ap (λ cs. visible_clusters (map encode_utf8_all (cut_after [] cs))) own ∙ ap (λ t. visible_clusters (map encode_utf8_all t)) h.alone in (
      visible_clusters (map encode_utf8_all h.rest),
      ap (λ cs. visible_clusters (map encode_utf8_all (cut_after [] cs))) (chars-append text after u)
          ∙ ap (λ t. visible_clusters (map encode_utf8_all t)) h.longer
          ∙ ap visible_clusters (map-append encode_utf8_all ps h.rest)
          ∙ visible-append (map encode_utf8_all ps) (map encode_utf8_all h.rest)
          ∙ ap (λ t. t ++ visible_clusters (map encode_utf8_all h.rest)) (sym alone),
    )

-- the columns of the clusters that were read
read-columns : (text first : List ℕ) (ps qs : List (List ℕ)) → cut_after [] (chars text) ≡ ps ++ qs → 0 < length qs → chars first ≡ concat ps
    → text_width first ≡ columns_of (visible_clusters (map encode_utf8_all ps))
unfolding text_width clusters segments
read-columns text first ps qs e some own =
    let h = stays (chars text) [] [] ps qs e some in
    ap (λ cs. columns_of (visible_clusters (map encode_utf8_all (cut_after [] cs)))) own ∙ ap (λ t. columns_of (visible_clusters (map encode_utf8_all t))) h.alone

-- ---- printable ASCII

cut-printable_pieces : (cs before : List ℕ) → is_printable cs ≡ true → cut_after before cs ≡ map (λ c. c ∷ []) cs
unfolding cut
cut-printable_pieces [] before h = refl
cut-printable_pieces (c ∷ cs) before h =
    let parts = and_parts (is_printable_char c) (is_printable cs) h in
    rw (printable-breaks c before cs parts.0 parts.1) (ap (λ t. (c ∷ []) ∷ t) (cut-printable_pieces cs (c ∷ before) parts.1))

concat-singles : (cs : List ℕ) → concat (map (λ c. c ∷ []) cs) ≡ cs
concat-singles [] = refl
concat-singles (c ∷ cs) = ap (λ t. c ∷ t) (concat-singles cs)

printable-take : (n : ℕ) (text : List ℕ) → is_printable text ≡ true → is_printable (take n text) ≡ true
printable-take n text h =
    (and_parts (is_printable (take n text)) (is_printable (drop n text))
    (sym (list_all-append is_printable_char (take n text) (drop n text)) ∙ ap is_printable (take-append-drop n text) ∙ h)).0

pub IsBeginning-printable : (columns : ℕ) (text first : List ℕ) → IsUtf8 text → is_printable text ≡ true → columns + 1 < length text → first ≡ take (columns + 1) text
    → IsBeginning columns first text
IsBeginning-printable columns text first u printable long e =
    let n = columns + 1 in
    let singles : List ℕ → List (List ℕ) = λ cs. map (λ c. c ∷ []) cs in
    let own : is_printable first ≡ true = ap is_printable e ∙ printable-take n text printable in
    let pieces : cut_after [] (chars text) ≡ singles (take n text) ++ singles (drop n text) =
    ap (cut_after []) (chars-printable text printable) ∙ cut-printable_pieces text [] printable
    ∙ ap singles (sym (take-append-drop n text)) ∙ map-append (λ c. c ∷ []) (take n text) (drop n text) in
    let some : 0 < length (singles (drop n text)) = omega (arith, long, length-map (drop n text) (λ c. c ∷ []), length-drop n text) in
    record {
      some = omega (arith, long);
      wide = omega (arith, long, text_width-printable first own, ap length e, length-take-le n text (omega (arith, long)));
      begins = begins-at text first (singles (take n text)) (singles (drop n text)) u pieces some (chars-printable first own ∙ e ∙ sym (concat-singles (take n text)));
    }

-- ---- a cluster at a time

-- the clusters `read` of the text were read, of at least `width` columns, and `left` are left
pub record HasClusters (text : List ℕ) (width : ℕ) (left : List (List ℕ)) : Type 0 where
  pub read : List (List ℕ)
  pub split : graphemes true text ≡ read ++ left
  pub columns : width ≤ columns_of (visible_clusters read)

-- a piece has the columns that are measured of it
columns-piece : (piece : List ℕ) → columns_of (visible_clusters (piece ∷ [])) ≡ unwrap_or (visible_width piece) 0
unfolding visible_clusters with_width
columns-piece piece = go (visible_width piece) refl
  where
    go : (o : Option ℕ) → visible_width piece ≡ o → columns_of (visible_clusters (piece ∷ [])) ≡ unwrap_or (visible_width piece) 0
    go None e = rw e refl
    go (Some n) e = rw e (omega arith)

pub HasClusters-more : (text piece : List ℕ) (width next : ℕ) (now left : List (List ℕ)) → HasClusters text width now → now ≡ piece ∷ left → next ≤ width + unwrap_or (visible_width piece) 0
    → HasClusters text next left
HasClusters-more text piece width next now left h e le =
    let joined = visible-append h.read (piece ∷ []) in
    let sum = sum_by-append (λ (c : Cluster). c.1) (visible_clusters h.read) (visible_clusters (piece ∷ [])) in
    record {
      read = h.read ++ piece ∷ [];
      split = h.split ∙ ap (λ t. h.read ++ t) e ∙ sym (append_assoc h.read (piece ∷ []) left);
      columns = omega (arith, le, h.columns, ap columns_of joined, sum, columns-piece piece);
    }

some_left : (left : List (List ℕ)) → 0 < length (concat left) → 0 < length left
some_left [] h = h
some_left (p ∷ ps) h = omega arith

concat-encodes : (ps : List (List ℕ)) → concat (map encode_utf8_all ps) ≡ encode_utf8_all (concat ps)
concat-encodes [] = refl
concat-encodes (p ∷ ps) = ap (λ t. encode_utf8_all p ++ t) (concat-encodes ps) ∙ sym (encodes-append p (concat ps))

-- the text that the clusters make up, and what is left of it
read-parts : (text rest : List ℕ) (width : ℕ) (left : List (List ℕ)) (h : HasClusters text width left) → IsUtf8 text → rest ≡ concat left → text ≡ concat h.read ++ rest
read-parts text rest width left h u e =
    sym (concat-segments (is_grapheme_break true) text u) ∙ ap concat h.split ∙ concat-append h.read left ∙ ap (λ t. concat h.read ++ t) (sym e)

pub rest-le : (text rest : List ℕ) (width : ℕ) (left : List (List ℕ)) → HasClusters text width left → IsUtf8 text → rest ≡ concat left → length rest ≤ length text
rest-le text rest width left h u e = omega (arith, ap length (read-parts text rest width left h u e), length-append (concat h.read) rest)

pub IsCharBoundary-read : (text rest : List ℕ) (width n : ℕ) (left : List (List ℕ)) → HasClusters text width left → IsUtf8 text → IsUtf8 rest → rest ≡ concat left → n ≡ length text - length rest
    → IsCharBoundary text n
IsCharBoundary-read text rest width n left h u v e at =
    let parts = read-parts text rest width left h u e in
    let size : length (concat h.read) ≡ n = omega (arith, at, ap length parts, length-append (concat h.read) rest) in
    subst (IsCharBoundary text) size (IsCharBoundary-at_seam text (concat h.read) rest parts v)

pub IsBeginning-read : (columns width : ℕ) (text first rest : List ℕ) (left : List (List ℕ)) → IsUtf8 text → IsUtf8 rest → HasClusters text width left → columns < width → rest ≡ concat left
    → 0 < length rest → first ≡ take (length text - length rest) text → IsBeginning columns first text
unfolding segments
IsBeginning-read columns width text first rest left u v h past e some at =
    let all = cut_after [] (chars text) in
    let k = length h.read in
    let ps = take k all in
    let qs = drop k all in
    let parts = read-parts text rest width left h u e in
    let size : length (concat h.read) ≡ length text - length rest = omega (arith, ap length parts, length-append (concat h.read) rest) in
    let own : first ≡ concat h.read = at ∙ ap (take (length text - length rest)) parts ∙ take_at (concat h.read) rest (length text - length rest) size in
    let utf8 : IsUtf8 first = IsUtf8-before text first rest u v (parts ∙ ap (λ t. t ++ rest) (sym own)) in
    let front : map encode_utf8_all ps ≡ h.read = sym (take-map encode_utf8_all k all) ∙ ap (take k) h.split ∙ take_at h.read left k refl in
    let more = some_left left (omega (arith, some, ap length e)) in
    let behind : 0 < length qs = omega (arith, more, length-drop k all, length-map all encode_utf8_all, ap length h.split, length-append h.read left) in
    let characters : chars first ≡ concat ps =
    encodes_same (chars first) (concat ps) (encodes-chars first utf8 ∙ own ∙ ap concat (sym front) ∙ concat-encodes ps) in
    let pieces : all ≡ ps ++ qs = sym (take-append-drop k all) in
    let width_is = read-columns text first ps qs pieces behind characters in
    record {
      some = omega (arith, some, ap length parts, length-append (concat h.read) rest);
      wide = omega (arith, past, h.columns, width_is, ap (λ t. columns_of (visible_clusters t)) front);
      begins = begins-at text first ps qs u pieces behind characters;
    }

-- ---- the first piece of a line

-- a part of a piece, and what follows it
record HasHead (part : List ℕ) (pieces : List (List ℕ)) : Type 0 where
  after : List ℕ
  rest : List (List ℕ)
  is : pieces ≡ (part ++ after) ∷ rest

head-from : (cs part : List ℕ) → 0 < length part → HasHead part (pieces_from part cs)
head-from [] [] some = absurd (omega (arith, some))
head-from [] (b ∷ bs) some = record { after = []; rest = []; is = pieces_from-end (b ∷ bs) ∙ ap (λ t. t ∷ []) (sym (append-nil (b ∷ bs))) }
head-from (c ∷ cs) part some = by_replacement (replacement c) refl (head-from cs (part ++ encode_utf8 c) (omega (arith, some, length-append part (encode_utf8 c))))
  where
    by_replacement : (o : Option (List ℕ)) → replacement c ≡ o → HasHead (part ++ encode_utf8 c) (pieces_from (part ++ encode_utf8 c) cs) → HasHead part (pieces_from part (c ∷ cs))
    by_replacement (Some r) e more =
        record { after = []; rest = r ∷ pieces_from [] cs; is = pieces_from-replaced part r c cs e ∙ ap (λ t. t ∷ (r ∷ pieces_from [] cs)) (sym (append-nil part)) }
    by_replacement None e more = record {
      after = encode_utf8 c ++ more.after;
      rest = more.rest;
      is = pieces_from-stays part c cs e ∙ more.is ∙ ap (λ t. t ∷ more.rest) (append_assoc part (encode_utf8 c) more.after);
    }

-- a character without a replacement
pub not_replaced : {A : Type 0} (o : Option A) (r : Option (List ℕ)) (f : A → List ℕ) → option_map f o ≡ r → is_some o ≡ false → r ≡ None
not_replaced None r f e h = sym e
not_replaced (Some a) r f e h = absurd (cc h)

pub IsPlain-read : (line rest : List ℕ) (n : ℕ) → HasRead line n rest → IsPlain line n
IsPlain-read line rest n h = record {
  within = omega (arith, ap length h.parts, length-append h.read rest, h.size);
  boundary = HasRead-boundary line rest n h;
  pieces =
      let front : take n line ≡ h.read = ap (take n) h.parts ∙ take_at h.read rest n h.size in
      let back : drop n line ≡ rest = ap (drop n) h.parts ∙ drop_at h.read rest n h.size in
      h.pieces ∙ ap₂ (λ p t. pieces_from p (chars t)) (sym front) (sym back);
}

pub IsFirst-plain : (columns n : ℕ) (line text first : List ℕ) → IsPlain line n → text ≡ take n line → IsBeginning columns first text → IsFirst columns first line
IsFirst-plain columns n line text first plain e b =
    let head = head-from (chars (drop n line)) text b.some in
    let begun = b.begins head.after in
    record {
      whole = text ++ head.after;
      after = head.rest;
      more = begun.0;
      pieces = plain.pieces ∙ ap (λ t. pieces_from t (chars (drop n line))) (sym e) ∙ head.is;
      begins = begun.1;
      wide = b.wide;
    }

-- ---- the spans of a line

-- the texts `old` are now `now`: those of the pieces of `whole` before `line` were added, and leave `left` of the columns
pub record HasPushed (columns left : ℕ) (old now : List (List ℕ)) (whole line : List ℕ) : Type 0 where
  pub done : List (List ℕ)
  pub spans : now ≡ old ++ done
  pub pieces : line_pieces whole ≡ done ++ line_pieces line
  pub room : columns ≡ left + sum_by text_width done

two-width : (text r : List ℕ) → sum_by text_width (text ∷ (r ∷ [])) ≡ text_width text + text_width r
two-width text r = omega (arith, sum_by-cons text_width text (r ∷ []), sum_by-cons text_width r [])

-- nothing is behind a text and its replacement
pub Adds-all : (columns left : ℕ) (old now new : List (List ℕ)) (whole line text r rest : List ℕ) → HasPushed columns left old now whole line → line_pieces line ≡ text ∷ (r ∷ line_pieces rest)
    → new ≡ now ++ text ∷ (r ∷ []) → length rest ≡ 0 → Adds columns old new (line_pieces whole)
unfolding line_pieces pieces_from chars
Adds-all columns left old now new whole line text r [] h e pushed none = record {
  texts = h.done ++ text ∷ (r ∷ []);
  added = pushed ∙ ap (λ t. t ++ text ∷ (r ∷ [])) h.spans ∙ append_assoc old h.done (text ∷ (r ∷ []));
  shown = inl (sym (h.pieces ∙ ap (λ t. h.done ++ t) e));
}
Adds-all columns left old now new whole line text r (b ∷ bs) h e pushed none = absurd (cc none)

-- a text and its replacement are wider than what is left
pub Adds-past : (columns left : ℕ) (old now new : List (List ℕ)) (whole line text r rest : List ℕ) → HasPushed columns left old now whole line → line_pieces line ≡ text ∷ (r ∷ line_pieces rest)
    → new ≡ now ++ text ∷ (r ∷ []) → left < text_width text + text_width r → Adds columns old new (line_pieces whole)
Adds-past columns left old now new whole line text r rest h e pushed past = record {
  texts = h.done ++ text ∷ (r ∷ []);
  added = pushed ∙ ap (λ t. t ++ text ∷ (r ∷ [])) h.spans ∙ append_assoc old h.done (text ∷ (r ∷ []));
  shown = inr (record {
    front = h.done ++ text ∷ [];
    last = r;
    whole = r;
    after = line_pieces rest;
    more = [];
    cut = sym (append_assoc h.done (text ∷ []) (r ∷ []));
    texts = h.pieces ∙ ap (λ t. h.done ++ t) e ∙ sym (append_assoc h.done (text ∷ []) (r ∷ line_pieces rest));
    begins = sym (append-nil (clusters r));
    wide = omega (arith, h.room, past, sum_by-append text_width h.done (text ∷ (r ∷ [])), two-width text r);
  });
}
