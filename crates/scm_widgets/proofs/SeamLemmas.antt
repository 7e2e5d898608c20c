-- A character that joins none beside it: the columns of a text that holds one are those of what stands before it, one, and those of what stands after it.
use Rattle.std.proofs.Common.{◌≡◌, ℕ, zero, suc, ◌+◌, ◌<◌, Bool, true, false, not, ◌&&◌, ◌||◌, List, [], ◌∷◌, ◌++◌, length, map, refl, sym, ap, ap₂, ◌∙◌, arith, Some, None, sum_by, append_assoc, append-nil, unwrap_or}
use Rattle.std.specs.Prelude.{if◌then◌else◌, ◌==◌, encode_utf8_all}
use Rattle.std.specs.List.{list_any, list_all, repeat}
use Rattle.std.specs.Char.{is_control}
use Rattle.std.specs.Str.{chars, IsUtf8, all_scalars}
use Rattle.std.proofs.lemmas.Bool.{and_parts}
use Rattle.std.proofs.lemmas.Bool.Decides.{nat_tests}
use Rattle.std.proofs.lemmas.List.Folds.{list_any-append}
use Rattle.std.proofs.lemmas.List.Sums.{sum_by-cons}
use Rattle.std.proofs.lemmas.Str.{chars-encodes, chars-append, chars_past_char, scalars-chars, IsUtf8-append, IsUtf8-from_ascii}
use Rattle.std.proofs.lemmas.Str.Ascii.{IsAscii-nil, IsAscii-cons}
use Rattle.ucd_table.proofs.Facts.{Stepped-below}
use Rattle.ucd_breaks.specs.GraphemeClusterBreak.{grapheme_cluster_break}
use Rattle.ucd_breaks.specs.declared.GraphemeClusterBreak.{GraphemeClusterBreak}
use Rattle.ucd_breaks.specs.declared.GraphemeClusterBreak.TheVariants.{Control, Cr, Lf, Other}
use Rattle.ucd_breaks.proofs.Computing.{ucd_breaks}
use Rattle.ucd_breaks.proofs.GraphemeClusterBreakLemmas.{grapheme_cluster_break_stepped}
use Rattle.ucd_derived.specs.IndicConjunctBreak.{indic_conjunct_break}
use Rattle.ucd_derived.specs.declared.IndicConjunctBreak.{IndicConjunctBreak}
use Rattle.ucd_derived.specs.declared.IndicConjunctBreak.TheVariants as conjunct
use Rattle.ucd_derived.proofs.Computing.{ucd_derived}
use Rattle.ucd_emoji.specs.Binary.{is_extended_pictographic, is_emoji_variation_base}
use Rattle.ucd_emoji.proofs.Computing.{ucd_emoji}
use Rattle.unicode_segmentation.specs.Grapheme.{is_grapheme_break, break_by_pair, ends_in_linker, is_consonant, joins_conjunct, is_extend, is_zwj, is_regional, ends_in_pictograph, joins_emoji, ends_in_half_flag, joins_flag}
use Rattle.unicode_segmentation.specs.Segments.{cut, prepend, segments}
use Rattle.unicode_width.specs.declared.state.State.{State}
use Rattle.unicode_width.specs.Width.{Reading, plain, if_kept, past_emoji, step, read_before, str_width}
use Rattle.unicode_width.proofs.WidthLemmas.{read_before-printable}
use Rattle.unicode_width.proofs.Rules.{str_width-append_simple, str_width-printable, is_simple}
use Rattle.scm_cells.specs.Cluster.{Cluster, is_printable}
use Rattle.scm_cells.specs.Clusters.{clusters, visible_clusters, visible_width, has_control, with_width, text_width}
use Rattle.scm_cells.proofs.PrintableLemmas.{is_printable_char, printable-ascii, printable-class, printable-encodes}

-- ---- a character that joins none

-- a printable character of ASCII that is no part of an emoji
pub record IsSeam (c : ℕ) : Type 0 where
  pub printable : is_printable_char c ≡ true
  pub base : is_emoji_variation_base c ≡ false
  pub pictograph : is_extended_pictographic c ≡ false
  pub conjunct : indic_conjunct_break c ≡ conjunct.None

pub IsSeam-space : IsSeam 0x20
unfolding ucd_emoji ucd_derived
IsSeam-space = record { printable = refl; base = refl; pictograph = refl; conjunct = refl }

pub IsSeam-round_open : IsSeam 0x28
unfolding ucd_emoji ucd_derived
IsSeam-round_open = record { printable = refl; base = refl; pictograph = refl; conjunct = refl }

pub IsSeam-round_close : IsSeam 0x29
unfolding ucd_emoji ucd_derived
IsSeam-round_close = record { printable = refl; base = refl; pictograph = refl; conjunct = refl }

pub IsSeam-square_open : IsSeam 0x5B
unfolding ucd_emoji ucd_derived
IsSeam-square_open = record { printable = refl; base = refl; pictograph = refl; conjunct = refl }

pub IsSeam-square_close : IsSeam 0x5D
unfolding ucd_emoji ucd_derived
IsSeam-square_close = record { printable = refl; base = refl; pictograph = refl; conjunct = refl }

-- ---- the columns of a piece

-- the columns of a piece, by its characters
abbrev columns : List ℕ → ℕ
columns cs = if list_any is_control cs then 0 else str_width false cs

-- the columns of pieces, by their bytes
abbrev all_columns : List (List ℕ) → ℕ
all_columns pieces = sum_by (λ (c : Cluster). c.1) (visible_clusters (map encode_utf8_all pieces))

kept_width-is : (cs : List ℕ) → all_scalars cs ≡ true
    → visible_width (encode_utf8_all cs) ≡ (if list_any is_control cs then None else (if str_width false cs == 0 then None else Some (str_width false cs)))
unfolding visible_width has_control
kept_width-is cs h = ap (λ t. if list_any is_control t then None else (if str_width false t == 0 then None else Some (str_width false t))) (chars-encodes cs h)

kept-dropped : (piece : List ℕ) (rest : List (List ℕ)) → visible_width piece ≡ None → sum_by (λ (c : Cluster). c.1) (visible_clusters (piece ∷ rest)) ≡ sum_by (λ (c : Cluster). c.1) (visible_clusters rest)
unfolding visible_clusters with_width
kept-dropped piece rest e = rw e refl

kept-counted : (piece : List ℕ) (n : ℕ) (rest : List (List ℕ)) → visible_width piece ≡ Some n → sum_by (λ (c : Cluster). c.1) (visible_clusters (piece ∷ rest)) ≡ n + sum_by (λ (c : Cluster). c.1) (visible_clusters rest)
unfolding visible_clusters with_width
kept-counted piece n rest e = rw e (sum_by-cons (λ (c : Cluster). c.1) (piece, n) (visible_clusters rest))

columns-first : (cs : List ℕ) (rest : List (List ℕ)) → all_scalars cs ≡ true → all_columns (cs ∷ rest) ≡ columns cs + all_columns rest
columns-first cs rest h = by_tests (list_any is_control cs) (str_width false cs == 0) refl refl
  where
    by_tests : (b t : Bool) → list_any is_control cs ≡ b → (str_width false cs == 0) ≡ t → all_columns (cs ∷ rest) ≡ columns cs + all_columns rest
    by_tests true t e f = let own = kept-dropped (encode_utf8_all cs) (map encode_utf8_all rest) (rw e at (kept_width-is cs h)) in rw e (omega (arith, own))
    by_tests false true e f =
        let none : str_width false cs ≡ 0 = grind (arith, nat_tests) in
        let own = kept-dropped (encode_utf8_all cs) (map encode_utf8_all rest) (rw (e, f) at (kept_width-is cs h)) in
        rw (e, none) (omega (arith, own))
    by_tests false false e f = rw e (kept-counted (encode_utf8_all cs) (str_width false cs) (map encode_utf8_all rest) (rw (e, f) at (kept_width-is cs h)))

-- ---- the columns of a text, read piece by piece

-- whether a boundary stands between characters, the last of which is `last`, and the next one
abbrev splits : ℕ → List ℕ → ℕ → Bool
splits last before next = is_grapheme_break true (last ∷ before) (next ∷ [])

-- the columns of a piece that is begun and of what follows it; the characters before are told nearest first
abbrev walk : List ℕ → ℕ → List ℕ → List ℕ → ℕ
walk piece last before [] = columns piece
walk piece last before (c ∷ cs) = if splits last before c then columns piece + walk (c ∷ []) c (last ∷ before) cs else walk (piece ++ c ∷ []) c (last ∷ before) cs

-- the columns of these characters
abbrev whole : List ℕ → ℕ
whole [] = 0
whole (c ∷ cs) = walk (c ∷ []) c [] cs

abbrev glue : Bool → List ℕ → List (List ℕ) → List (List ℕ)
glue b part pieces = if b then part ∷ pieces else prepend part pieces

glue-glue : (piece : List ℕ) (c : ℕ) (d : Bool) (rest : List (List ℕ)) → prepend piece (glue d (c ∷ []) rest) ≡ glue d (piece ++ c ∷ []) rest
glue-glue piece c true rest = refl
glue-glue piece c false [] = refl
glue-glue piece c false (p ∷ ps) = ap (λ t. t ∷ ps) (sym (append_assoc piece (c ∷ []) p))

glue-columns : (b : Bool) (piece : List ℕ) (c : ℕ) (d : Bool) (rest : List (List ℕ)) (n m : ℕ) → all_scalars piece ≡ true
    → all_columns (glue d (c ∷ []) rest) ≡ n → all_columns (glue d (piece ++ c ∷ []) rest) ≡ m
    → all_columns (glue b piece (glue d (c ∷ []) rest)) ≡ (if b then columns piece + n else m)
glue-columns true piece c d rest n m h one more = columns-first piece (glue d (c ∷ []) rest) h ∙ ap (λ t. columns piece + t) one
glue-columns false piece c d rest n m h one more = ap all_columns (glue-glue piece c d rest) ∙ more

scalars-append : (xs ys : List ℕ) → all_scalars xs ≡ true → all_scalars ys ≡ true → all_scalars (xs ++ ys) ≡ true
scalars-append [] ys h g = g
scalars-append (x ∷ xs) ys h g = let parts = and_parts _ (all_scalars xs) h in rw (parts.0, scalars-append xs ys parts.1 g) refl

scalars-first : (c : ℕ) (cs : List ℕ) → all_scalars (c ∷ cs) ≡ true → all_scalars (c ∷ []) ≡ true
scalars-first c cs h = let parts = and_parts _ (all_scalars cs) h in rw parts.0 refl

scalars-rest : (c : ℕ) (cs : List ℕ) → all_scalars (c ∷ cs) ≡ true → all_scalars cs ≡ true
scalars-rest c cs h = (and_parts _ (all_scalars cs) h).1

walk-is : (piece : List ℕ) (last : ℕ) (before cs : List ℕ) → all_scalars piece ≡ true → all_scalars cs ≡ true
    → all_columns (glue (is_grapheme_break true (last ∷ before) (cs ++ [])) piece (cut (is_grapheme_break true) (last ∷ before) cs [])) ≡ walk piece last before cs
unfolding cut is_grapheme_break visible_clusters
walk-is piece last before [] h g = let e = columns-first piece [] h in omega (arith, e)
walk-is piece last before (c ∷ cs) h g =
    let own = scalars-first c cs g in
    let rest = scalars-rest c cs g in
    glue-columns (splits last before c) piece c (is_grapheme_break true (c ∷ (last ∷ before)) (cs ++ [])) (cut (is_grapheme_break true) (c ∷ (last ∷ before)) cs [])
    (walk (c ∷ []) c (last ∷ before) cs) (walk (piece ++ c ∷ []) c (last ∷ before) cs) h
    (walk-is (c ∷ []) c (last ∷ before) cs own rest) (walk-is (piece ++ c ∷ []) c (last ∷ before) cs (scalars-append piece (c ∷ []) h own) rest)

whole-is : (cs : List ℕ) → all_scalars cs ≡ true → all_columns (cut (is_grapheme_break true) [] cs []) ≡ whole cs
unfolding cut visible_clusters
whole-is [] h = refl
whole-is (c ∷ cs) h = walk-is (c ∷ []) c [] cs (scalars-first c cs h) (scalars-rest c cs h)

text_width-whole : (text : List ℕ) → IsUtf8 text → text_width text ≡ whole (chars text)
unfolding text_width clusters segments
text_width-whole text u = whole-is (chars text) (scalars-chars text u)

-- ---- controls stand alone

abbrev is_breaking : GraphemeClusterBreak → Bool
is_breaking Control = true
is_breaking Cr = true
is_breaking Lf = true
is_breaking _ = false

control-small : (c : ℕ) → is_control c ≡ true → c < 0xA0
control-small c h = grind (arith, nat_tests)

abbrev is_control_class : ℕ → GraphemeClusterBreak → Bool
is_control_class c class = not (is_control c) || is_breaking class

control-class : (c : ℕ) → c < 0xA0 → is_control_class c (grapheme_cluster_break c) ≡ true
unfolding ucd_breaks
control-class c h = Stepped-below grapheme_cluster_break grapheme_cluster_break_stepped is_control_class 0xA0 refl c h

class-control : (c : ℕ) → is_breaking (grapheme_cluster_break c) ≡ false → is_control c ≡ false
class-control c h = by_test (is_control c) refl
  where
    by_test : (b : Bool) → is_control c ≡ b → is_control c ≡ false
    by_test false e = e
    by_test true e = let checked = rw (e, h) at (control-class c (control-small c e)) in cc

pair-after : (l x : GraphemeClusterBreak) → is_breaking l ≡ true → is_breaking x ≡ false → break_by_pair true l x ≡ Some true
pair-after Control x h g = refl
pair-after Lf x h g = refl
pair-after Cr Lf h g = cc
pair-after Cr _ h g = refl
pair-after _ x h g = cc

pair-into : (l x : GraphemeClusterBreak) → is_breaking l ≡ false → is_breaking x ≡ true → break_by_pair true l x ≡ Some true
pair-into Control x h g = cc
pair-into Cr x h g = cc
pair-into Lf x h g = cc
pair-into _ Control h g = refl
pair-into _ Cr h g = refl
pair-into _ Lf h g = refl
pair-into _ _ h g = cc

splits-pair : (last : ℕ) (before : List ℕ) (next : ℕ) → break_by_pair true (grapheme_cluster_break last) (grapheme_cluster_break next) ≡ Some true → splits last before next ≡ true
unfolding is_grapheme_break
splits-pair last before next e = rw e refl

-- characters that no boundary parts: neither breaks, if one of them doesn't
joined-after : (last : ℕ) (before : List ℕ) (next : ℕ) → splits last before next ≡ false → is_breaking (grapheme_cluster_break next) ≡ false → is_breaking (grapheme_cluster_break last) ≡ false
joined-after last before next h g = by_test (is_breaking (grapheme_cluster_break last)) refl
  where
    by_test : (b : Bool) → is_breaking (grapheme_cluster_break last) ≡ b → is_breaking (grapheme_cluster_break last) ≡ false
    by_test false e = e
    by_test true e = let broken = splits-pair last before next (pair-after (grapheme_cluster_break last) (grapheme_cluster_break next) e g) in cc

joined-into : (last : ℕ) (before : List ℕ) (next : ℕ) → splits last before next ≡ false → is_breaking (grapheme_cluster_break last) ≡ false → is_breaking (grapheme_cluster_break next) ≡ false
joined-into last before next h g = by_test (is_breaking (grapheme_cluster_break next)) refl
  where
    by_test : (b : Bool) → is_breaking (grapheme_cluster_break next) ≡ b → is_breaking (grapheme_cluster_break next) ≡ false
    by_test false e = e
    by_test true e = let broken = splits-pair last before next (pair-into (grapheme_cluster_break last) (grapheme_cluster_break next) g e) in cc

-- ---- what stands before the character is not looked at from behind it

linker-cons : (v : IndicConjunctBreak) (xs ys : List IndicConjunctBreak) → ends_in_linker xs ≡ ends_in_linker ys → ends_in_linker (v ∷ xs) ≡ ends_in_linker (v ∷ ys)
unfolding ends_in_linker
linker-cons conjunct.Linker xs ys e = refl
linker-cons conjunct.Extend xs ys e = e
linker-cons _ xs ys e = refl

module _ (c : ℕ) (seam : IsSeam c) (m : List ℕ) where
  class : grapheme_cluster_break c ≡ Other
  class = sym (printable-class c seam.printable)

  linker-stops : (xs : List ℕ) → ends_in_linker (map indic_conjunct_break (xs ++ c ∷ m)) ≡ ends_in_linker (map indic_conjunct_break xs)
  unfolding ends_in_linker
  linker-stops [] = rw seam.conjunct refl
  linker-stops (x ∷ xs) = linker-cons (indic_conjunct_break x) (map indic_conjunct_break (xs ++ c ∷ m)) (map indic_conjunct_break xs) (linker-stops xs)

  pictograph-stops : (xs : List ℕ) → ends_in_pictograph (xs ++ c ∷ m) ≡ ends_in_pictograph xs
  unfolding ends_in_pictograph
  pictograph-stops [] = rw (seam.pictograph, class) refl
  pictograph-stops (x ∷ xs) = ap (λ b. is_extended_pictographic x || (is_extend (grapheme_cluster_break x) && b)) (pictograph-stops xs)

  flag-stops : (xs : List ℕ) → ends_in_half_flag (xs ++ c ∷ m) ≡ ends_in_half_flag xs
  unfolding ends_in_half_flag
  flag-stops [] = rw class refl
  flag-stops (x ∷ xs) = ap (λ b. is_regional (grapheme_cluster_break x) && not b) (flag-stops xs)

  splits-stops : (last : ℕ) (xs : List ℕ) (next : ℕ) → splits last (xs ++ c ∷ m) next ≡ splits last xs next
  unfolding is_grapheme_break
  splits-stops last xs next =
      ap₂ (λ l r. unwrap_or (break_by_pair true (grapheme_cluster_break last) (grapheme_cluster_break next)) (not (((l && is_consonant (indic_conjunct_break next)) || r) || joins_flag (last ∷ (xs ++ c ∷ m)) next)))
      (linker-stops (last ∷ xs)) (ap (λ b. is_zwj (grapheme_cluster_break last) && b && is_extended_pictographic next) (pictograph-stops xs))
      ∙ ap (λ f. unwrap_or (break_by_pair true (grapheme_cluster_break last) (grapheme_cluster_break next)) (not (((true && joins_conjunct (last ∷ xs) next) || joins_emoji (last ∷ xs) next) || (f && is_regional (grapheme_cluster_break next)))))
      (flag-stops (last ∷ xs))

  walk-stops : (piece : List ℕ) (last : ℕ) (xs cs : List ℕ) → walk piece last (xs ++ c ∷ m) cs ≡ walk piece last xs cs
  walk-stops piece last xs [] = refl
  walk-stops piece last xs (d ∷ cs) = rw (splits-stops last xs d, walk-stops (d ∷ []) d (last ∷ xs) cs, walk-stops (piece ++ d ∷ []) d (last ∷ xs) cs) refl

-- ---- the columns at the character

past_emoji-seam : (c total : ℕ) (s : State) → is_printable_char c ≡ true → past_emoji false c total s ≡ (total + 1, plain)
unfolding past_emoji
past_emoji-seam c total s h = grind (arith, nat_tests)

step-seam : (c total : ℕ) (s : State) → IsSeam c → step false c (total, s) ≡ (total + 1, plain)
unfolding step
step-seam c total s seam = by_test (not s.emoji) refl
  where
    by_test : (b : Bool) → not s.emoji ≡ b → step false c (total, s) ≡ (total + 1, plain)
    by_test true e = rw e (past_emoji-seam c total s seam.printable)
    by_test false e = rw (e, seam.base) (past_emoji-seam c total (record (if_kept s) { emoji = false }) seam.printable)

read-append : (xs ys : List ℕ) (r : Reading) → read_before false (xs ++ ys) r ≡ read_before false xs (read_before false ys r)
read-append [] ys r = refl
read-append (x ∷ xs) ys r = ap (step false x) (read-append xs ys r)

width-read : (xs ys : List ℕ) → (read_before false xs (read_before false ys (0, plain))).0 ≡ str_width false (xs ++ ys)
unfolding str_width
width-read xs ys = ap (λ r. r.0) (sym (read-append xs ys (0, plain)))

step-width : (c : ℕ) (ys : List ℕ) → IsSeam c → read_before false (c ∷ ys) (0, plain) ≡ (str_width false ys + 1, plain)
unfolding str_width
step-width c ys seam = let r = read_before false ys (0, plain) in step-seam c r.0 r.1 seam

abbrev pub spaces : ℕ → List ℕ
spaces n = repeat n (32 ∷ [])

pub printable-spaces : (n : ℕ) → is_printable (spaces n) ≡ true
printable-spaces zero = refl
printable-spaces (suc n) = printable-spaces n

simple-spaces : (n : ℕ) → list_all is_simple (spaces n) ≡ true
simple-spaces zero = refl
simple-spaces (suc n) = simple-spaces n

pub length-spaces : (n : ℕ) → length (spaces n) ≡ n
length-spaces zero = refl
length-spaces (suc n) = ap suc (length-spaces n)

read-spaces : (n : ℕ) → read_before false (spaces n) (0, plain) ≡ (n, plain)
read-spaces n =
    let size : 0 + length (spaces n) ≡ n = omega (arith, length-spaces n) in
    ap (λ l. read_before false l (0, plain)) (sym (append-nil (spaces n))) ∙ sym (read_before-printable false (spaces n) [] 0 (printable-spaces n) refl) ∙ ap (λ k. (k, plain)) size

-- columns that follow add to those of a text
read-shift : (xs : List ℕ) (n : ℕ) → (read_before false xs (n, plain)).0 ≡ str_width false xs + n
read-shift xs n =
    let all : str_width false (xs ++ spaces n) ≡ str_width false xs + str_width false (spaces n) = str_width-append_simple false xs (spaces n) (simple-spaces n) in
    ap (λ r. (read_before false xs r).0) (sym (read-spaces n)) ∙ width-read xs (spaces n) ∙ all ∙ ap (λ k. str_width false xs + k) (str_width-printable false (spaces n) (printable-spaces n) ∙ length-spaces n)

str_width-seam : (c : ℕ) (xs ys : List ℕ) → IsSeam c → str_width false (xs ++ c ∷ ys) ≡ str_width false xs + (1 + str_width false ys)
str_width-seam c xs ys seam =
    let n = str_width false ys in
    let swap : n + 1 ≡ 1 + n = omega arith in
    sym (width-read xs (c ∷ ys)) ∙ ap (λ r. (read_before false xs r).0) (step-width c ys seam) ∙ read-shift xs (n + 1) ∙ ap (λ k. str_width false xs + k) swap

columns-seam : (c : ℕ) (xs ys : List ℕ) → IsSeam c → list_any is_control xs ≡ false → list_any is_control ys ≡ false → columns (xs ++ c ∷ ys) ≡ columns xs + (1 + columns ys)
columns-seam c xs ys seam h g =
    let printable = seam.printable in
    let own : is_control c ≡ false = grind (arith, nat_tests) in
    rw (list_any-append is_control xs (c ∷ ys), h, own, g) (str_width-seam c xs ys seam)

columns-nil : columns [] ≡ 0
unfolding str_width
columns-nil = refl

no-control-push : (cs : List ℕ) (d : ℕ) → list_any is_control cs ≡ false → is_control d ≡ false → list_any is_control (cs ++ d ∷ []) ≡ false
no-control-push cs d h g = list_any-append is_control cs (d ∷ []) ∙ rw (h, g) refl

no-control-one : (d : ℕ) → is_control d ≡ false → list_any is_control (d ∷ []) ≡ false
no-control-one d h = rw h refl

-- ---- the columns of a text that holds the character

module _ (c : ℕ) (seam : IsSeam c) (m : List ℕ) where
  -- a piece that holds the character goes on as its part behind it does
  walk-through : (acc piece : List ℕ) (last : ℕ) (xs cs : List ℕ) → list_any is_control acc ≡ false → list_any is_control piece ≡ false → is_breaking (grapheme_cluster_break last) ≡ false
      → walk (acc ++ c ∷ piece) last (xs ++ c ∷ m) cs ≡ columns acc + (1 + walk piece last xs cs)
  walk-through acc piece last xs [] h g nb = columns-seam c acc piece seam h g
  walk-through acc piece last xs (d ∷ cs) h g nb =
      by_test (splits last xs d) refl (walk-stops c seam m (d ∷ []) d (last ∷ xs) cs)
      (λ e. let next = joined-into last xs d e nb in walk-through acc (piece ++ d ∷ []) d (last ∷ xs) cs h (no-control-push piece d g (class-control d next)) next)
    where
      by_test : (b : Bool) → splits last xs d ≡ b
          → walk (d ∷ []) d ((last ∷ xs) ++ c ∷ m) cs ≡ walk (d ∷ []) d (last ∷ xs) cs
          → (splits last xs d ≡ false → walk (acc ++ c ∷ (piece ++ d ∷ [])) d ((last ∷ xs) ++ c ∷ m) cs ≡ columns acc + (1 + walk (piece ++ d ∷ []) d (last ∷ xs) cs))
          → walk (acc ++ c ∷ piece) last (xs ++ c ∷ m) (d ∷ cs) ≡ columns acc + (1 + walk piece last xs (d ∷ cs))
      by_test true e same more = let own = columns-seam c acc piece seam h g in rw (splits-stops c seam m last xs d, e) (omega (arith, own, same))
      by_test false e same more = rw (splits-stops c seam m last xs d, e, append_assoc acc (c ∷ piece) (d ∷ [])) (more e)

  -- a piece that ends with the character
  walk-from : (acc cs : List ℕ) → list_any is_control acc ≡ false → walk (acc ++ c ∷ []) c m cs ≡ columns acc + (1 + whole cs)
  walk-from acc [] h = columns-seam c acc [] seam h refl ∙ ap (λ n. columns acc + (1 + n)) columns-nil
  walk-from acc (d ∷ cs) h = by_test (splits c m d) refl
    where
      by_test : (b : Bool) → splits c m d ≡ b → walk (acc ++ c ∷ []) c m (d ∷ cs) ≡ columns acc + (1 + whole (d ∷ cs))
      by_test true e =
          let own = columns-seam c acc [] seam h refl in
          let none = columns-nil in
          let same = walk-stops c seam m (d ∷ []) d [] cs in
          rw e (omega (arith, own, none, same))
      by_test false e =
          let next = joined-into c m d e (rw (class c seam m) refl) in
          rw (e, append_assoc acc (c ∷ []) (d ∷ [])) (walk-through acc (d ∷ []) d [] cs h (no-control-one d (class-control d next)) next)

module _ (c : ℕ) (seam : IsSeam c) where
  walk-seam : (piece : List ℕ) (last : ℕ) (before xs cs : List ℕ) → (is_breaking (grapheme_cluster_break last) ≡ false → list_any is_control piece ≡ false)
      → walk piece last before (xs ++ c ∷ cs) ≡ walk piece last before xs + (1 + whole cs)
  walk-seam piece last before [] cs plainly = by_test (splits last before c) refl
    where
      by_test : (b : Bool) → splits last before c ≡ b → walk piece last before (c ∷ cs) ≡ columns piece + (1 + whole cs)
      by_test true e =
          let own = walk-from c seam (last ∷ before) [] cs refl in
          let none = columns-nil in
          rw e (omega (arith, own, none))
      by_test false e = rw e (walk-from c seam (last ∷ before) piece cs (plainly (joined-after last before c e (rw (class c seam before) refl))))
  walk-seam piece last before (x ∷ xs) cs plainly =
      by_test (splits last before x) refl (walk-seam (x ∷ []) x (last ∷ before) xs cs (λ nb. no-control-one x (class-control x nb)))
      (λ e. walk-seam (piece ++ x ∷ []) x (last ∷ before) xs cs (λ nb. no-control-push piece x (plainly (joined-after last before x e nb)) (class-control x nb)))
    where
      by_test : (b : Bool) → splits last before x ≡ b
          → walk (x ∷ []) x (last ∷ before) (xs ++ c ∷ cs) ≡ walk (x ∷ []) x (last ∷ before) xs + (1 + whole cs)
          → (splits last before x ≡ false → walk (piece ++ x ∷ []) x (last ∷ before) (xs ++ c ∷ cs) ≡ walk (piece ++ x ∷ []) x (last ∷ before) xs + (1 + whole cs))
          → walk piece last before (x ∷ (xs ++ c ∷ cs)) ≡ walk piece last before (x ∷ xs) + (1 + whole cs)
      by_test true e one more = rw e (omega (arith, one))
      by_test false e one more = rw e (more e)

  whole-seam : (xs cs : List ℕ) → whole (xs ++ c ∷ cs) ≡ whole xs + (1 + whole cs)
  whole-seam [] cs = let own = walk-from c seam [] [] cs refl in let none = columns-nil in omega (arith, own, none)
  whole-seam (x ∷ xs) cs = walk-seam (x ∷ []) x [] xs cs (λ nb. no-control-one x (class-control x nb))

  pub IsUtf8-seam : (b : List ℕ) → IsUtf8 b → IsUtf8 (c ∷ b)
  IsUtf8-seam b u = IsUtf8-append (c ∷ []) b (IsUtf8-from_ascii (c ∷ []) (IsAscii-cons c [] (printable-ascii c seam.printable) IsAscii-nil)) u

  chars-seam : (b : List ℕ) → IsUtf8 b → chars (c ∷ b) ≡ c ∷ chars b
  chars-seam b u = chars_past_char (c ∷ b) b c (IsUtf8-seam b u) (ap (λ t. t ++ b) (sym (printable-encodes c seam.printable)))

  pub text_width-seam : (a b : List ℕ) → IsUtf8 a → IsUtf8 b → text_width (a ++ c ∷ b) ≡ text_width a + (1 + text_width b)
  text_width-seam a b u v =
      text_width-whole (a ++ c ∷ b) (IsUtf8-append a (c ∷ b) u (IsUtf8-seam b v)) ∙ ap whole (chars-append a (c ∷ b) u ∙ ap (λ t. chars a ++ t) (chars-seam b v))
      ∙ whole-seam (chars a) (chars b) ∙ ap₂ (λ x y. x + (1 + y)) (sym (text_width-whole a u)) (sym (text_width-whole b v))
