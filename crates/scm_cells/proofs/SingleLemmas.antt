-- A cluster of printable ASCII is one byte: between two such characters there is always a boundary.
use lib.Utf8.{encode, next}
use Rattle.std.proofs.Common.{◌≡◌, ℕ, ◌+◌, ◌/◌, ◌<◌, ◌≤◌, Bool, true, false, cond, ltb, List, [], ◌∷◌, ◌++◌, length, refl, sym, ap, ap₂, subst, ◌∙◌, arith, encode_utf8, encode_utf8_all, get_or, ⊎_elim}
use Rattle.std.specs.Prelude.{if◌then◌else◌}
use Rattle.std.specs.List.{All}
use Rattle.std.specs.Str.{chars}
use Rattle.std.proofs.lemmas.Bool.{and_parts, cases_lt}
use Rattle.std.proofs.lemmas.Bool.Decides.{nat_tests}
use Rattle.std.proofs.lemmas.List.Elements.{All-nil, All-cons, All-tail, All-map}
use Rattle.std.proofs.lemmas.List.Folds.{list_all-append}
use Rattle.std.proofs.lemmas.Str.{encode_ascii}
use Rattle.unicode_segmentation.specs.Grapheme.{graphemes, is_grapheme_break}
use Rattle.unicode_segmentation.specs.Segments.{cut, prepend, segments}
use Rattle.unicode_segmentation.proofs.GraphemeLemmas.{is_grapheme_break-others}
use Rattle.scm_cells.specs.Cluster.{is_printable}
use Rattle.scm_cells.proofs.PrintableLemmas.{is_printable_char, printable-ascii, printable-class}

-- ---- characters whose bytes are printable

-- the first byte of a character from U+0080 on is not printable
high-first : (x y z : Bool) (a b c d e f g h i : ℕ) (first : List ℕ) → x ≡ false → 128 ≤ a → 128 ≤ c → 128 ≤ f
    → is_printable (cond x first (cond y (a ∷ (b ∷ [])) (cond z (c ∷ (d ∷ (e ∷ []))) (f ∷ (g ∷ (h ∷ (i ∷ []))))))) ≡ false
high-first true y z a b c d e f g h i first x ha hc hf = absurd (cc)
high-first false true z a b c d e f g h i first x ha hc hf = let out : is_printable_char a ≡ false = grind (arith, nat_tests) in rw out refl
high-first false false true a b c d e f g h i first x ha hc hf = let out : is_printable_char c ≡ false = grind (arith, nat_tests) in rw out refl
high-first false false false a b c d e f g h i first x ha hc hf = let out : is_printable_char f ≡ false = grind (arith, nat_tests) in rw out refl

high-unprintable : (c : ℕ) → 128 ≤ c → is_printable (encode_utf8 c) ≡ false
unfolding encode
high-unprintable c h =
    high-first (ltb c 128) (ltb c 2048) (ltb c 65536) (192 + c / 64) (next c) (224 + c / 4096) (next (c / 64)) (next c) (240 + c / 262144) (next (c / 4096)) (next (c / 64)) (next c) (c ∷ [])
    (grind (arith, nat_tests)) (omega arith) (omega arith) (omega arith)

printable-low : (c : ℕ) → is_printable (encode_utf8 c) ≡ true → c < 128
printable-low c h = ⊎_elim (λ (l : c < 128). l) (λ (g : 128 ≤ c). let not = high-unprintable c g in absurd (cc)) (cases_lt c 128)

-- characters whose bytes are printable are those bytes
pub printable-same : (cs : List ℕ) → is_printable (encode_utf8_all cs) ≡ true → encode_utf8_all cs ≡ cs
printable-same [] h = refl
printable-same (c ∷ cs) h =
    let parts = and_parts (is_printable (encode_utf8 c)) (is_printable (encode_utf8_all cs)) (sym (list_all-append is_printable_char (encode_utf8 c) (encode_utf8_all cs)) ∙ h) in
    ap₂ (λ (xs ys : List ℕ). xs ++ ys) (encode_ascii c (printable-low c parts.0)) (printable-same cs parts.1)

-- ---- the pieces of a text

-- a piece is one character if all its characters are printable
abbrev pub IsSingle : List ℕ → Type 0
IsSingle piece = is_printable piece ≡ true → length piece ≡ 1

-- the first of these pieces begins with a character
pub record Begins (c : ℕ) (pieces : List (List ℕ)) : Type 0 where
  pub first : List ℕ
  pub more : List (List ℕ)
  pub is : pieces ≡ (c ∷ first) ∷ more

begins-prepend : (c : ℕ) (pieces : List (List ℕ)) → Begins c (prepend (c ∷ []) pieces)
begins-prepend c [] = record { first = []; more = []; is = refl }
begins-prepend c (p ∷ ps) = record { first = p; more = ps; is = refl }

begins-if : (b : Bool) (c : ℕ) (rest : List (List ℕ)) → Begins c (if b then (c ∷ []) ∷ rest else prepend (c ∷ []) rest)
begins-if true c rest = record { first = []; more = rest; is = refl }
begins-if false c rest = begins-prepend c rest

pub begins-cut : (c : ℕ) (before cs : List ℕ) → Begins c (cut (is_grapheme_break true) before (c ∷ cs) [])
unfolding cut
begins-cut c before cs = begins-if (is_grapheme_break true (c ∷ before) (cs ++ [])) c (cut (is_grapheme_break true) (c ∷ before) cs [])

printable-break : (c d : ℕ) (before after : List ℕ) → is_printable_char c ≡ true → is_printable_char d ≡ true → is_grapheme_break true (c ∷ before) (d ∷ after) ≡ true
printable-break c d before after h g =
    let small = printable-ascii d g in
    sym (is_grapheme_break-others true (c ∷ before) d after (omega arith) (omega (arith, small)) (printable-class c h) (printable-class d g))

-- a character that is joined to another: one of them is not printable
joined-single : (c d : ℕ) (before after first : List ℕ) → is_grapheme_break true (c ∷ before) (d ∷ after) ≡ false → IsSingle (c ∷ (d ∷ first))
joined-single c d before after first e h =
    let parts = and_parts (is_printable_char c) (is_printable (d ∷ first)) h in
    let more = and_parts (is_printable_char d) (is_printable first) parts.1 in
    let break = printable-break c d before after parts.0 more.0 in
    absurd (cc)

single-if : (b : Bool) (c d : ℕ) (before cs : List ℕ) (rest : List (List ℕ)) → is_grapheme_break true (c ∷ before) (d ∷ (cs ++ [])) ≡ b → Begins d rest → All IsSingle rest
    → All IsSingle (if b then (c ∷ []) ∷ rest else prepend (c ∷ []) rest)
single-if true c d before cs rest e begins all = All-cons IsSingle (c ∷ []) rest (λ h. refl) all
single-if false c d before cs rest e begins all =
    let pieces = subst (All IsSingle) begins.is all in
    subst (λ (ps : List (List ℕ)). All IsSingle (prepend (c ∷ []) ps)) (sym begins.is)
    (All-cons IsSingle (c ∷ (d ∷ begins.first)) begins.more (joined-single c d before (cs ++ []) begins.first e) (All-tail IsSingle (d ∷ begins.first) begins.more pieces))

single-last : (b : Bool) (c : ℕ) → All IsSingle (if b then (c ∷ []) ∷ [] else prepend (c ∷ []) [])
single-last true c = All-cons IsSingle (c ∷ []) [] (λ h. refl) (All-nil IsSingle)
single-last false c = All-cons IsSingle (c ∷ []) [] (λ h. refl) (All-nil IsSingle)

single-cut : (before cs : List ℕ) → All IsSingle (cut (is_grapheme_break true) before cs [])
unfolding cut
single-cut before [] = All-nil IsSingle
single-cut before (c ∷ []) = single-last (is_grapheme_break true (c ∷ before) []) c
single-cut before (c ∷ (d ∷ cs)) =
    single-if (is_grapheme_break true (c ∷ before) (d ∷ (cs ++ []))) c d before cs (cut (is_grapheme_break true) (c ∷ before) (d ∷ cs) []) refl
    (begins-cut d (c ∷ before) cs) (single-cut (c ∷ before) (d ∷ cs))

-- each cluster of a text is one byte if its bytes are printable
pub single-graphemes : (text : List ℕ) → All IsSingle (graphemes true text)
unfolding segments
single-graphemes text =
    let all = single-cut [] (chars text) in
    All-map IsSingle encode_utf8_all (cut (is_grapheme_break true) [] (chars text) []) (λ k d h printable.
    let same = printable-same (get_or (cut (is_grapheme_break true) [] (chars text) []) k d) printable in
    ap length same ∙ all k d h (subst (λ (bytes : List ℕ). is_printable bytes ≡ true) same printable))
