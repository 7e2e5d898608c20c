-- Texts whose clusters are those of two parts, one after the other.
use Rattle.std.proofs.Common.{◌≡◌, ℕ, Bool, true, false, not, ◌&&◌, ◌||◌, List, [], ◌∷◌, ◌++◌, map, refl, sym, ap, ap₂, ◌∙◌, ⊎_elim, append_assoc}
use Rattle.std.specs.Prelude.{unwrap_or, if◌then◌else◌, encode_utf8_all}
use Rattle.std.specs.Str.{chars, IsUtf8}
use Rattle.std.proofs.lemmas.List.{map-append}
use Rattle.std.proofs.lemmas.List.Elements.{filter_map-append}
use Rattle.std.proofs.lemmas.Str.{chars-append}
use Rattle.ucd_breaks.specs.GraphemeClusterBreak.{grapheme_cluster_break}
use Rattle.ucd_derived.specs.IndicConjunctBreak.{indic_conjunct_break}
use Rattle.ucd_derived.specs.declared.IndicConjunctBreak.{IndicConjunctBreak}
use Rattle.ucd_derived.specs.declared.IndicConjunctBreak.TheVariants as InCb
use Rattle.ucd_emoji.specs.Binary.{is_extended_pictographic}
use Rattle.unicode_segmentation.specs.Grapheme.{break_by_pair, ends_in_linker, is_consonant, is_extend, is_zwj, is_regional, ends_in_pictograph, ends_in_half_flag, joins_conjunct, joins_emoji, joins_flag, is_grapheme_break}
use Rattle.unicode_segmentation.specs.Segments.{cut, prepend, segments}
use Rattle.scm_cells.specs.Clusters.{clusters, visible_clusters, with_width}
use Rattle.scm_front_paint.specs.LineEnds.{IsPlain, BeginsPlain, EndsPlain}

-- ---- what a rule reads of the characters before

linker-plain : (c : ℕ) (before : List ℕ) → IsPlain c → ends_in_linker (map indic_conjunct_break (c ∷ before)) ≡ false
unfolding ends_in_linker
linker-plain c before p = ⊎_elim (λ e. rw e refl) (λ e. rw e refl) p.conjunct

pictograph-plain : (c : ℕ) (before : List ℕ) → IsPlain c → ends_in_pictograph (c ∷ before) ≡ (is_extended_pictographic c || false)
unfolding ends_in_pictograph
pictograph-plain c before p = rw p.class refl

flag-plain : (c : ℕ) (before : List ℕ) → IsPlain c → ends_in_half_flag (c ∷ before) ≡ false
unfolding ends_in_half_flag
flag-plain c before p = rw p.class refl

-- what stands before a plain character is not read

linker-near : (near : List ℕ) (c : ℕ) (far : List ℕ) → IsPlain c → ends_in_linker (map indic_conjunct_break (near ++ c ∷ far)) ≡ ends_in_linker (map indic_conjunct_break (near ++ c ∷ []))
unfolding ends_in_linker
linker-near [] c far p = linker-plain c far p ∙ sym (linker-plain c [] p)
linker-near (d ∷ near) c far p = next (indic_conjunct_break d) (linker-near near c far p)
  where
    next : (v : IndicConjunctBreak) → ends_in_linker (map indic_conjunct_break (near ++ c ∷ far)) ≡ ends_in_linker (map indic_conjunct_break (near ++ c ∷ []))
        → ends_in_linker (v ∷ map indic_conjunct_break (near ++ c ∷ far)) ≡ ends_in_linker (v ∷ map indic_conjunct_break (near ++ c ∷ []))
    next InCb.Consonant e = refl
    next InCb.Extend e = e
    next InCb.Linker e = refl
    next InCb.None e = refl

pictograph-near : (near : List ℕ) (c : ℕ) (far : List ℕ) → IsPlain c → ends_in_pictograph (near ++ c ∷ far) ≡ ends_in_pictograph (near ++ c ∷ [])
unfolding ends_in_pictograph
pictograph-near [] c far p = pictograph-plain c far p ∙ sym (pictograph-plain c [] p)
pictograph-near (d ∷ near) c far p = more (pictograph-near near c far p)
  where
    more : ends_in_pictograph (near ++ c ∷ far) ≡ ends_in_pictograph (near ++ c ∷ []) → ends_in_pictograph (d ∷ (near ++ c ∷ far)) ≡ ends_in_pictograph (d ∷ (near ++ c ∷ []))
    more e = ap (λ b. is_extended_pictographic d || (is_extend (grapheme_cluster_break d) && b)) e

flag-near : (near : List ℕ) (c : ℕ) (far : List ℕ) → IsPlain c → ends_in_half_flag (near ++ c ∷ far) ≡ ends_in_half_flag (near ++ c ∷ [])
unfolding ends_in_half_flag
flag-near [] c far p = flag-plain c far p ∙ sym (flag-plain c [] p)
flag-near (d ∷ near) c far p = more (flag-near near c far p)
  where
    more : ends_in_half_flag (near ++ c ∷ far) ≡ ends_in_half_flag (near ++ c ∷ []) → ends_in_half_flag (d ∷ (near ++ c ∷ far)) ≡ ends_in_half_flag (d ∷ (near ++ c ∷ []))
    more e = ap (λ b. is_regional (grapheme_cluster_break d) && not b) e

emoji-near : (near : List ℕ) (c : ℕ) (far : List ℕ) (next : ℕ) → IsPlain c → joins_emoji (near ++ c ∷ far) next ≡ joins_emoji (near ++ c ∷ []) next
emoji-near [] c far next p = rw p.class refl
emoji-near (d ∷ near) c far next p = ap (λ b. is_zwj (grapheme_cluster_break d) && b && is_extended_pictographic next) (pictograph-near near c far p)

rule-near : (near : List ℕ) (c : ℕ) (far after : List ℕ) → IsPlain c → is_grapheme_break true (near ++ c ∷ far) after ≡ is_grapheme_break true (near ++ c ∷ []) after
unfolding is_grapheme_break
rule-near [] c far [] p = refl
rule-near (d ∷ near) c far [] p = refl
rule-near [] c far (n ∷ after) p =
    ap (λ b. unwrap_or (break_by_pair true (grapheme_cluster_break c) (grapheme_cluster_break n)) (not b))
    (ap₂ ◌||◌ (ap₂ ◌||◌ (ap (λ b. b && is_consonant (indic_conjunct_break n)) (linker-near [] c far p)) (emoji-near [] c far n p))
    (ap (λ b. b && is_regional (grapheme_cluster_break n)) (flag-near [] c far p)))
rule-near (d ∷ near) c far (n ∷ after) p =
    ap (λ b. unwrap_or (break_by_pair true (grapheme_cluster_break d) (grapheme_cluster_break n)) (not b))
    (ap₂ ◌||◌ (ap₂ ◌||◌ (ap (λ b. b && is_consonant (indic_conjunct_break n)) (linker-near (d ∷ near) c far p)) (emoji-near (d ∷ near) c far n p))
    (ap (λ b. b && is_regional (grapheme_cluster_break n)) (flag-near (d ∷ near) c far p)))

-- ---- a cut between plain characters

cut-near : (cs near : List ℕ) (c : ℕ) (far : List ℕ) → IsPlain c → cut (is_grapheme_break true) (near ++ c ∷ far) cs [] ≡ cut (is_grapheme_break true) (near ++ c ∷ []) cs []
unfolding cut
cut-near [] near c far p = refl
cut-near (d ∷ cs) near c far p =
    ap₂ (λ b rest. if b then (d ∷ []) ∷ rest else prepend (d ∷ []) rest) (rule-near (d ∷ near) c far (cs ++ []) p) (cut-near cs (d ∷ near) c far p)

cut-alone : (before : List ℕ) (c : ℕ) (cs : List ℕ) → IsPlain c → cut (is_grapheme_break true) before (c ∷ cs) [] ≡ cut (is_grapheme_break true) [] (c ∷ cs) []
unfolding cut
cut-alone before c cs p =
    ap₂ (λ b rest. if b then (c ∷ []) ∷ rest else prepend (c ∷ []) rest) (rule-near [] c before (cs ++ []) p) (cut-near cs [] c before p)

-- a boundary stands between two plain characters
breaks-plain : (before : List ℕ) (c d : ℕ) (after : List ℕ) → IsPlain c → IsPlain d → is_grapheme_break true (c ∷ before) (d ∷ after) ≡ true
unfolding is_grapheme_break
breaks-plain before c d after p q =
    let linker : joins_conjunct (c ∷ before) d ≡ false = ap (λ b. b && is_consonant (indic_conjunct_break d)) (linker-plain c before p) in
    let emoji : joins_emoji (c ∷ before) d ≡ false = rw p.class refl in
    let flag : joins_flag (c ∷ before) d ≡ false = ap (λ b. b && is_regional (grapheme_cluster_break d)) (flag-plain c before p) in
    rw (linker, emoji, flag, p.class, q.class) refl

prepend-append : (c : List ℕ) (p : List ℕ) (ps qs : List (List ℕ)) → prepend c ((p ∷ ps) ++ qs) ≡ prepend c (p ∷ ps) ++ qs
prepend-append c p ps qs = refl

-- the pieces of one character and more are at least one
record HasPieces (pieces : List (List ℕ)) : Type 0 where
  first : List ℕ
  more : List (List ℕ)
  is : pieces ≡ first ∷ more

has-pieces : (before : List ℕ) (c : ℕ) (cs after : List ℕ) → HasPieces (cut (is_grapheme_break true) before (c ∷ cs) after)
unfolding cut
has-pieces before c cs after = go (is_grapheme_break true (c ∷ before) (cs ++ after)) (cut (is_grapheme_break true) (c ∷ before) cs after)
  where
    go : (b : Bool) (rest : List (List ℕ)) → HasPieces (if b then (c ∷ []) ∷ rest else prepend (c ∷ []) rest)
    go true rest = record { first = c ∷ []; more = rest; is = refl }
    go false [] = record { first = c ∷ []; more = []; is = refl }
    go false (p ∷ ps) = record { first = c ∷ p; more = ps; is = refl }

-- the pieces of characters that follow others
cut-more : (before : List ℕ) (c d : ℕ) (cs more : List ℕ)
    → cut (is_grapheme_break true) before (c ∷ (d ∷ cs)) more
    ≡ (if is_grapheme_break true (c ∷ before) (d ∷ []) then (c ∷ []) ∷ cut (is_grapheme_break true) (c ∷ before) (d ∷ cs) more
    else prepend (c ∷ []) (cut (is_grapheme_break true) (c ∷ before) (d ∷ cs) more))
unfolding cut is_grapheme_break
cut-more before c d cs more = refl

glue-append : (b : Bool) (c : ℕ) (ps qs : List (List ℕ)) → HasPieces ps
    → (if b then (c ∷ []) ∷ (ps ++ qs) else prepend (c ∷ []) (ps ++ qs)) ≡ (if b then (c ∷ []) ∷ ps else prepend (c ∷ []) ps) ++ qs
glue-append true c ps qs h = refl
glue-append false c ps qs h =
    ap (λ t. prepend (c ∷ []) (t ++ qs)) h.is ∙ sym (ap (λ t. prepend (c ∷ []) t ++ qs) h.is)

cut-two : (before : List ℕ) (c d : ℕ) (after : List ℕ) → IsPlain c → IsPlain d
    → cut (is_grapheme_break true) before (c ∷ (d ∷ after)) [] ≡ cut (is_grapheme_break true) before (c ∷ []) [] ++ cut (is_grapheme_break true) [] (d ∷ after) []
unfolding cut is_grapheme_break
cut-two before c d after p q =
    cut-more before c d after []
    ∙ ap (λ b. if b then (c ∷ []) ∷ cut (is_grapheme_break true) (c ∷ before) (d ∷ after) [] else prepend (c ∷ []) (cut (is_grapheme_break true) (c ∷ before) (d ∷ after) []))
    (breaks-plain before c d [] p q)
    ∙ ap (λ t. (c ∷ []) ∷ t) (cut-alone (c ∷ before) d after q)
    ∙ sym (ap (λ t. t ++ cut (is_grapheme_break true) [] (d ∷ after) []) (one before c))
  where
    one : (before : List ℕ) (c : ℕ) → cut (is_grapheme_break true) before (c ∷ []) [] ≡ (c ∷ []) ∷ []
    one before c = refl

cut-apart : (front before : List ℕ) (c d : ℕ) (after : List ℕ) → IsPlain c → IsPlain d
    → cut (is_grapheme_break true) before (front ++ c ∷ (d ∷ after)) []
    ≡ cut (is_grapheme_break true) before (front ++ c ∷ []) [] ++ cut (is_grapheme_break true) [] (d ∷ after) []
cut-apart [] before c d after p q = cut-two before c d after p q
cut-apart (x ∷ []) before c d after p q =
    let all = λ (t : List (List ℕ)). if is_grapheme_break true (x ∷ before) (c ∷ []) then (x ∷ []) ∷ t else prepend (x ∷ []) t in
    cut-more before x c (d ∷ after) []
    ∙ ap all (cut-two (x ∷ before) c d after p q)
    ∙ glue-append (is_grapheme_break true (x ∷ before) (c ∷ [])) x (cut (is_grapheme_break true) (x ∷ before) (c ∷ []) []) (cut (is_grapheme_break true) [] (d ∷ after) []) (has-pieces (x ∷ before) c [] [])
    ∙ sym (ap (λ t. t ++ cut (is_grapheme_break true) [] (d ∷ after) []) (cut-more before x c [] []))
cut-apart (x ∷ (y ∷ front)) before c d after p q =
    let all = λ (t : List (List ℕ)). if is_grapheme_break true (x ∷ before) (y ∷ []) then (x ∷ []) ∷ t else prepend (x ∷ []) t in
    cut-more before x y (front ++ c ∷ (d ∷ after)) []
    ∙ ap all (cut-apart (y ∷ front) (x ∷ before) c d after p q)
    ∙ glue-append (is_grapheme_break true (x ∷ before) (y ∷ [])) x (cut (is_grapheme_break true) (x ∷ before) (y ∷ (front ++ c ∷ [])) [])
    (cut (is_grapheme_break true) [] (d ∷ after) []) (has-pieces (x ∷ before) y (front ++ c ∷ []) [])
    ∙ sym (ap (λ t. t ++ cut (is_grapheme_break true) [] (d ∷ after) []) (cut-more before x y (front ++ c ∷ []) []))

-- ---- clusters of two texts

visible-append : (ps qs : List (List ℕ)) → visible_clusters (ps ++ qs) ≡ visible_clusters ps ++ visible_clusters qs
unfolding visible_clusters
visible-append ps qs = filter_map-append with_width ps qs

-- the clusters of a text that ends with a plain character, and of one that begins with one
pub clusters-apart : (front back : List ℕ) → IsUtf8 front → EndsPlain front → BeginsPlain back → clusters (front ++ back) ≡ clusters front ++ clusters back
unfolding clusters segments
clusters-apart front back u e b =
    let rule = is_grapheme_break true in
    let both : chars (front ++ back) ≡ e.before ++ e.last ∷ (b.first ∷ b.after) =
    chars-append front back u ∙ ap₂ ◌++◌ e.is b.is ∙ append_assoc e.before (e.last ∷ []) (b.first ∷ b.after) in
    let fronts = cut rule [] (e.before ++ e.last ∷ []) [] in
    let backs = cut rule [] (b.first ∷ b.after) [] in
    ap (λ cs. visible_clusters (map encode_utf8_all (cut rule [] cs []))) both
    ∙ ap (λ t. visible_clusters (map encode_utf8_all t)) (cut-apart e.before [] e.last b.first b.after e.plain b.plain)
    ∙ ap visible_clusters (map-append encode_utf8_all fronts backs)
    ∙ visible-append (map encode_utf8_all fronts) (map encode_utf8_all backs)
    ∙ sym (ap₂ (λ f g. visible_clusters (map encode_utf8_all (cut rule [] f [])) ++ visible_clusters (map encode_utf8_all (cut rule [] g []))) e.is b.is)
