-- What clusters laid on a row write, step by step.
use Rattle.std.proofs.Common.{◌≡◌, ℕ, suc, ◌+◌, ◌-◌, ◌<◌, ◌≤◌, min, Bool, true, false, not, ◌&&◌, nat_le, List, [], ◌∷◌, ◌++◌, length, get_or, take, drop, slice_range, append-nil, append_assoc, length-append, length-take, length-drop, replicate, refl, sym, ap, ap₂, subst, ◌∙◌, arith, ⊎_elim, Option, Some, None, Result, Ok, Err, length-take-le, take_at, drop_at}
use Rattle.std.specs.Prelude.{option_map, encode_utf8_all, if◌then◌else◌, ℤ, pos, ◌+ℤ◌, ◌-ℤ◌, ◌≤ℤ◌, ◌<ℤ◌, int_le, int_lt, take_while}
use Rattle.std.specs.Int.{int_min, int_max}
use Rattle.std.specs.List.{All, flat_map, filter_map, prefix_len}
use Rattle.std.specs.Result.{OnErr, IfOk}
use Rattle.std.proofs.lemmas.Result.{IfOk-weaker}
use Rattle.std.proofs.lemmas.Bool.{cases_lt}
use Rattle.std.proofs.lemmas.Bool.Decides.{nat_tests}
use Rattle.std.proofs.lemmas.List.{take-append-le}
use Rattle.std.proofs.lemmas.List.Elements.{All-nil, All-cons, All-head, All-tail, All-map}
use Rattle.std.proofs.lemmas.Bool.{and_parts}
use Rattle.std.proofs.lemmas.Str.Ascii.{IsAscii-nil, IsAscii-cons}
use Rattle.std.specs.Str.{chars, is_utf8, IsUtf8}
use lib.Utf8.{scalar, scalars}
use Rattle.unicode_segmentation.specs.Segments.{Rule, cut, prepend, segments}
use Rattle.std.proofs.lemmas.List.Sums.{sum_by-cons}
use Rattle.std.proofs.lemmas.Slice.{take-put_mid}
use borrow.Rule.Slice.PartMut.{put_mid}
use Rattle.std.proofs.lemmas.Int.{ints, by_lt_z}
use Rattle.std.proofs.lemmas.Str.{chars-nil, length-encode, scalars-chars, is_utf8-from_IsUtf8, IsUtf8-from_ascii}
use Rattle.unicode_segmentation.specs.Grapheme.{graphemes, is_grapheme_break}
use Rattle.unicode_width.specs.Width.{str_width}
use Rattle.scm_cells.specs.Rect.{or_zero}
use Rattle.scm_cells.specs.Cluster.{Cluster, bytes_as_clusters}
use Rattle.scm_cells.specs.Clusters.{clusters, text_width, visible_clusters, with_width, visible_width, has_control, IsMeasured}
use Rattle.scm_cells.specs.Cell.{Cell, blank}
use Rattle.scm_cells.specs.Row.{with_columns, passes, cells_past, cells_of, written, overlay, put}
use Rattle.scm_cells.specs.Laying.{fit, columns_of, IsPassed, IsBegun}
use Rattle.scm_cells.specs.FrameText.{chars_as_clusters}
use Rattle.scm_cells.specs.declared.row.Laid.{Laid}
use Rattle.scm_cells.proofs.RectLemmas.{places}
use Rattle.scm_cells.proofs.SingleLemmas.{IsSingle, single-graphemes}

-- ---- clusters have bytes and columns

pub record IsKept (c : Cluster) : Type 0 where
  pub bytes : 0 < length c.0
  pub columns : 0 < c.1

abbrev pub AllKept : List Cluster → Type 0
AllKept [] = Unit {0}
AllKept (c ∷ cs) = IsKept c × AllKept cs

empty_width : visible_width [] ≡ None
unfolding visible_width has_control str_width
empty_width = rw chars-nil refl

pub kept_columns : (piece : List ℕ) (width : ℕ) → visible_width piece ≡ Some width → 0 < width
unfolding visible_width
kept_columns piece width e = grind (arith, nat_tests)

pub kept_bytes : (piece : List ℕ) (width : ℕ) → visible_width piece ≡ Some width → 0 < length piece
kept_bytes [] width e = let none = sym empty_width ∙ e in cc
kept_bytes (b ∷ bs) width e = omega arith

AllKept-cons : (piece : List ℕ) (pieces : List (List ℕ)) (width : Option ℕ) → visible_width piece ≡ width → AllKept (filter_map with_width pieces) → AllKept (filter_map with_width (piece ∷ pieces))
unfolding with_width
AllKept-cons piece pieces None e h = rw e h
AllKept-cons piece pieces (Some width) e h = rw e (record { bytes = kept_bytes piece width e; columns = kept_columns piece width e }, h)

AllKept-pieces : (pieces : List (List ℕ)) → AllKept (filter_map with_width pieces)
AllKept-pieces [] = tt
AllKept-pieces (p ∷ ps) = AllKept-cons p ps (visible_width p) refl (AllKept-pieces ps)

pub AllKept-bytes : (text : List ℕ) → AllKept (bytes_as_clusters text)
unfolding bytes_as_clusters
AllKept-bytes [] = tt
AllKept-bytes (b ∷ bs) = (record { bytes = omega arith; columns = omega arith }, AllKept-bytes bs)

pub AllKept-chars : (cs : List ℕ) → AllKept (chars_as_clusters cs)
unfolding chars_as_clusters
AllKept-chars [] = tt
AllKept-chars (c ∷ cs) = (record { bytes = grind (arith, nat_tests, length-encode c); columns = omega arith }, AllKept-chars cs)

pub AllKept-visible : (pieces : List (List ℕ)) → AllKept (visible_clusters pieces)
unfolding visible_clusters
AllKept-visible pieces = AllKept-pieces pieces

pub AllKept-clusters : (text : List ℕ) → AllKept (clusters text)
unfolding clusters visible_clusters
AllKept-clusters text = AllKept-pieces (graphemes true text)

-- ---- clusters have the columns that are measured of them, and are UTF-8

abbrev IsScalars : List ℕ → Type 0
IsScalars cs = scalars cs ≡ true

abbrev IsText : List ℕ → Type 0
IsText piece = is_utf8 piece ≡ true

both : (a b : Bool) → a ≡ true → b ≡ true → (a && b) ≡ true
both a b h g = rw (h, g) refl

scalars-prepend : (c : ℕ) (ps : List (List ℕ)) → scalar c ≡ true → All IsScalars ps → All IsScalars (prepend (c ∷ []) ps)
scalars-prepend c [] h all = All-cons IsScalars (c ∷ []) [] (both (scalar c) true h refl) (All-nil IsScalars)
scalars-prepend c (p ∷ ps) h all = All-cons IsScalars (c ∷ p) ps (both (scalar c) (scalars p) h (All-head IsScalars p ps all)) (All-tail IsScalars p ps all)

scalars-if : (b : Bool) (xs ys : List (List ℕ)) → All IsScalars xs → All IsScalars ys → All IsScalars (if b then xs else ys)
scalars-if true xs ys h g = h
scalars-if false xs ys h g = g

scalars-cut : (rule : Rule) (before cs after : List ℕ) → scalars cs ≡ true → All IsScalars (cut rule before cs after)
unfolding cut
scalars-cut rule before [] after h = All-nil IsScalars
scalars-cut rule before (c ∷ cs) after h =
    let parts = and_parts (scalar c) (scalars cs) h in
    let rest = scalars-cut rule (c ∷ before) cs after parts.1 in
    scalars-if (rule (c ∷ before) (cs ++ after)) ((c ∷ []) ∷ cut rule (c ∷ before) cs after) (prepend (c ∷ []) (cut rule (c ∷ before) cs after))
    (All-cons IsScalars (c ∷ []) (cut rule (c ∷ before) cs after) (both (scalar c) true parts.0 refl) rest) (scalars-prepend c (cut rule (c ∷ before) cs after) parts.0 rest)

texts-segments : (rule : Rule) (text : List ℕ) → IsUtf8 text → All IsText (segments rule text)
unfolding segments
texts-segments rule text u =
    let all = scalars-cut rule [] (chars text) [] (scalars-chars text u) in
    All-map IsText encode_utf8_all (cut rule [] (chars text) []) (λ k d h. is_utf8-from_IsUtf8 _ (get_or (cut rule [] (chars text) []) k d, (all k d h, refl)))

AllMeasured-cons : (piece : List ℕ) (pieces : List (List ℕ)) (width : Option ℕ) → visible_width piece ≡ width → IsText piece → IsSingle piece
    → All IsMeasured (filter_map with_width pieces) → All IsMeasured (filter_map with_width (piece ∷ pieces))
unfolding with_width
AllMeasured-cons piece pieces None e u s h = rw e h
AllMeasured-cons piece pieces (Some width) e u s h = rw e (All-cons IsMeasured (piece, width) (filter_map with_width pieces) (record { columns = e; utf8 = u; single = s }) h)

AllMeasured-pieces : (pieces : List (List ℕ)) → All IsText pieces → All IsSingle pieces → All IsMeasured (filter_map with_width pieces)
AllMeasured-pieces [] all single = All-nil IsMeasured
AllMeasured-pieces (p ∷ ps) all single =
    AllMeasured-cons p ps (visible_width p) refl (All-head IsText p ps all) (All-head IsSingle p ps single) (AllMeasured-pieces ps (All-tail IsText p ps all) (All-tail IsSingle p ps single))

pub AllMeasured-clusters : (text : List ℕ) → IsUtf8 text → All IsMeasured (clusters text)
unfolding clusters visible_clusters
AllMeasured-clusters text u = AllMeasured-pieces (graphemes true text) (texts-segments (is_grapheme_break true) text u) (single-graphemes text)

measured-from : (piece : List ℕ) (width : Option ℕ) (n : ℕ) → option_map {U = Cluster} (λ w. (piece, w)) width ≡ Some (piece, n) → width ≡ Some n
measured-from piece None n e = cc
measured-from piece (Some w) n e = let same : ◌≡◌ {A = Cluster} (piece, w) (piece, n) = cc in ap (λ (c : Cluster). Some c.1) same

pub measured : (c : Cluster) → with_width c.0 ≡ Some c → is_utf8 c.0 ≡ true → IsSingle c.0 → IsMeasured c
unfolding with_width
measured c e u s = record { columns = measured-from c.0 (visible_width c.0) c.1 e; utf8 = u; single = s }

pub utf8-ascii : (b : ℕ) → b < 128 → is_utf8 (b ∷ []) ≡ true
utf8-ascii b h = is_utf8-from_IsUtf8 (b ∷ []) (IsUtf8-from_ascii (b ∷ []) (IsAscii-cons b [] h IsAscii-nil))

-- ---- a cluster at a time

and_false : (b : Bool) → (b && false) ≡ false
and_false true = refl
and_false false = refl

pub by_stop : {P : Type 0} (b : Bool) {x : Bool} → x ≡ b → (x ≡ true → P) → (x ≡ false → P) → P
by_stop true e f g = f e
by_stop false e f g = g e

take_while-pass : {X : Type 0} (p : X → Bool) (x : X) (xs : List X) → p x ≡ true → take_while p (x ∷ xs) ≡ x ∷ take_while p xs
take_while-pass p x xs e = let one : 1 + prefix_len p xs ≡ suc (prefix_len p xs) = omega arith in rw (e, one) refl

take_while-stop : {X : Type 0} (p : X → Bool) (x : X) (xs : List X) → p x ≡ false → take_while p (x ∷ xs) ≡ []
take_while-stop p x xs e = rw e refl

pub written-none : (column : ℤ) (low high : ℕ) → written column [] low high ≡ []
unfolding written with_columns
written-none column low high = refl

pub written-cons : (column : ℤ) (c : Cluster) (cs : List Cluster) (low high : ℕ) → passes low high (column, c) ≡ false
    → written column (c ∷ cs) low high ≡ cells_past low high (column, c) ++ written (column +ℤ pos c.1) cs low high
unfolding written with_columns
written-cons column c cs low high e =
    ap (flat_map (cells_past low high)) (take_while-pass (λ p. not (passes low high p)) (column, c) (with_columns (column +ℤ pos c.1) cs) (ap not e))

pub written-stop : (column : ℤ) (c : Cluster) (cs : List Cluster) (low high : ℕ) → passes low high (column, c) ≡ true → written column (c ∷ cs) low high ≡ []
unfolding written with_columns
written-stop column c cs low high e =
    ap (flat_map (cells_past low high)) (take_while-stop (λ p. not (passes low high p)) (column, c) (with_columns (column +ℤ pos c.1) cs) (ap not e))

pub written-skipped : (column : ℤ) (c : Cluster) (cs : List Cluster) (low high : ℕ) → low < high → (column +ℤ pos c.1) ≤ℤ pos low
    → written column (c ∷ cs) low high ≡ written (column +ℤ pos c.1) cs low high
written-skipped column c cs low high h e =
    let within : int_lt (pos high) (column +ℤ pos c.1) ≡ false = grind (arith, ints) in
    let before : int_le (column +ℤ pos c.1) (pos low) ≡ true = grind (arith, ints) in
    let stays : passes low high (column, c) ≡ false = rw within (and_false (int_le (pos low) column)) in
    written-cons column c cs low high stays ∙ rw before refl

pub written-crossing : (column : ℤ) (c : Cluster) (cs : List Cluster) (low high : ℕ) → column <ℤ pos low → pos low <ℤ (column +ℤ pos c.1)
    → written column (c ∷ cs) low high ≡ replicate (or_zero (int_min (pos high) (column +ℤ pos c.1) -ℤ pos low)) blank ++ written (column +ℤ pos c.1) cs low high
written-crossing column c cs low high h e =
    let begins : int_le (pos low) column ≡ false = grind (arith, ints) in
    let past : int_le (column +ℤ pos c.1) (pos low) ≡ false = grind (arith, ints) in
    let crosses : int_lt column (pos low) ≡ true = grind (arith, ints) in
    let stays : passes low high (column, c) ≡ false = rw begins refl in
    written-cons column c cs low high stays ∙ rw (past, crosses) refl

written-whole : (column : ℤ) (c : Cluster) (cs : List Cluster) (low high : ℕ) → pos low ≤ℤ column → (column +ℤ pos c.1) ≤ℤ pos high → 0 < c.1
    → written column (c ∷ cs) low high ≡ cells_of c ++ written (column +ℤ pos c.1) cs low high
written-whole column c cs low high h e w =
    let within : int_lt (pos high) (column +ℤ pos c.1) ≡ false = grind (arith, ints) in
    let past : int_le (column +ℤ pos c.1) (pos low) ≡ false = grind (arith, ints) in
    let inside : int_lt column (pos low) ≡ false = grind (arith, ints) in
    let stays : passes low high (column, c) ≡ false = rw within (and_false (int_le (pos low) column)) in
    written-cons column c cs low high stays ∙ rw (past, inside) refl

written-ended : (column : ℤ) (c : Cluster) (cs : List Cluster) (low high : ℕ) → pos low ≤ℤ column → pos high <ℤ (column +ℤ pos c.1) → written column (c ∷ cs) low high ≡ []
written-ended column c cs low high h e =
    let begins : int_le (pos low) column ≡ true = grind (arith, ints) in
    let past : int_lt (pos high) (column +ℤ pos c.1) ≡ true = grind (arith, ints) in
    written-stop column c cs low high (rw (begins, past) refl)

-- a cluster that ends before the low limit writes nothing, whatever the high one
written-skipped_any : (column : ℤ) (c : Cluster) (cs : List Cluster) (low high : ℕ) → (column +ℤ pos c.1) ≤ℤ pos low → written (column +ℤ pos c.1) cs low high ≡ []
    → written column (c ∷ cs) low high ≡ []
written-skipped_any column c cs low high e none =
    let before : int_le (column +ℤ pos c.1) (pos low) ≡ true = grind (arith, ints) in
    by_stop (passes low high (column, c)) refl
    (λ stops. written-stop column c cs low high stops)
    (λ stays. written-cons column c cs low high stays ∙ rw before none)

-- ---- clusters that have room

pub fit-cons : (room : ℕ) (c : Cluster) (cs : List Cluster) → c.1 ≤ room → fit room (c ∷ cs) ≡ cells_of c ++ fit (room - c.1) cs
unfolding fit
fit-cons room c cs h = let e : nat_le c.1 room ≡ true = grind (arith, nat_tests) in rw e refl

pub fit-stop : (room : ℕ) (c : Cluster) (cs : List Cluster) → room < c.1 → fit room (c ∷ cs) ≡ []
unfolding fit
fit-stop room c cs h = let e : nat_le c.1 room ≡ false = grind (arith, nat_tests) in rw e refl

pub fit-none : (room : ℕ) → fit room [] ≡ []
unfolding fit
fit-none room = refl

pub fit-full : (cs : List Cluster) (room : ℕ) → AllKept cs → room ≡ 0 → fit room cs ≡ []
fit-full [] room h e = fit-none room
fit-full (c ∷ cs) room h e = let w = h.0.columns in fit-stop room c cs (omega arith)

-- from the low limit on, the clusters that have room are written
pub written-fit : (cs : List Cluster) (at low high : ℕ) → AllKept cs → low ≤ at → written (pos at) cs low high ≡ fit (high - at) cs
written-fit [] at low high kept h = written-none (pos at) low high ∙ sym (fit-none (high - at))
written-fit (c ∷ cs) at low high kept h =
    let w = kept.0.columns in
    ⊎_elim
    (λ (past : high - at < c.1). written-ended (pos at) c cs low high (omega (arith, places)) (omega (arith, places)) ∙ sym (fit-stop (high - at) c cs past))
    (λ (room : c.1 ≤ high - at).
    let left : high - (at + c.1) ≡ high - at - c.1 = omega arith in
    written-whole (pos at) c cs low high (omega (arith, places)) (omega (arith, places)) w
    ∙ ap (λ t. cells_of c ++ t) (written-fit cs (at + c.1) low high kept.1 (omega arith) ∙ ap (λ n. fit n cs) left)
    ∙ sym (fit-cons (high - at) c cs room))
    (cases_lt (high - at) c.1)

closed_part : (low high : ℕ) (z : ℤ) → high ≤ low → or_zero (int_min (pos high) z -ℤ pos low) ≡ 0
closed_part low high z h = omega (arith, places)

written-closed_cons : (c : Cluster) (cs : List Cluster) (column : ℤ) (low high : ℕ) → high ≤ low → written (column +ℤ pos c.1) cs low high ≡ [] → written column (c ∷ cs) low high ≡ []
written-closed_cons c cs column low high h none =
    by_lt_z (pos low) (column +ℤ pos c.1)
    (λ past. by_lt_z column (pos low)
    (λ before.
    let e : replicate (or_zero (int_min (pos high) (column +ℤ pos c.1) -ℤ pos low)) blank ≡ [] = rw (closed_part low high (column +ℤ pos c.1) h) refl in
    written-crossing column c cs low high before past ∙ ap₂ (λ a b. a ++ b) e none)
    (λ begun. written-ended column c cs low high begun (omega (arith, places))))
    (λ ends. written-skipped_any column c cs low high ends none)

-- ---- clusters before the low limit

-- laid `columns` columns before a limit, `cs` writes what `rest` writes from `before` columns before it
abbrev pub IsNearer : ℕ → List Cluster → ℕ → List Cluster → Type 0
IsNearer columns cs before rest = (low high : ℕ) → low < high → written (pos low -ℤ pos columns) cs low high ≡ written (pos low -ℤ pos before) rest low high

pub IsNearer-none : (columns : ℕ) (cs : List Cluster) → IsNearer columns cs columns cs
IsNearer-none columns cs = λ low high h. refl

nearer-place : (low before width : ℕ) → width ≤ before → (pos low -ℤ pos before) +ℤ pos width ≡ pos low -ℤ pos (before - width)
nearer-place low before width h = omega (arith, places)

pub IsNearer-more : (columns before width : ℕ) (cs now rest : List Cluster) (c : Cluster) → IsNearer columns cs before now → now ≡ c ∷ rest → c.1 ≡ width → width ≤ before
    → IsNearer columns cs (before - width) rest
IsNearer-more columns before width cs now rest c h e w le = λ low high lt.
    let place : (pos low -ℤ pos before) +ℤ pos c.1 ≡ pos low -ℤ pos (before - width) = rw w (nearer-place low before width le) in
    let ends : ((pos low -ℤ pos before) +ℤ pos c.1) ≤ℤ pos low = omega (arith, places) in
    h low high lt ∙ ap (λ t. written (pos low -ℤ pos before) t low high) e ∙ written-skipped (pos low -ℤ pos before) c rest low high lt ends
    ∙ ap (λ z. written z rest low high) place

no_blanks : (n m : ℕ) (rest : List Cluster) → fit m rest ≡ replicate (min 0 n) blank ++ fit (m - 0) rest
no_blanks n m rest =
    let none : min 0 n ≡ 0 = omega arith in
    let all : m - 0 ≡ m = omega arith in
    rw (none, all) refl

-- none is left before the limit
pub IsPassed-at_limit : (columns before : ℕ) (cs rest : List Cluster) → AllKept rest → IsNearer columns cs before rest → before ≡ 0 → IsPassed columns cs 0 rest
IsPassed-at_limit columns before cs rest kept h e = λ low high lt.
    let place : pos low -ℤ pos before ≡ pos low = omega (arith, places) in
    h low high lt ∙ ap (λ z. written z rest low high) place ∙ written-fit rest low low high kept (omega arith)
    ∙ no_blanks (high - low) (high - low) rest

-- the text ends before the limit
pub IsPassed-end : (columns before : ℕ) (cs now rest : List Cluster) → IsNearer columns cs before now → now ≡ [] → rest ≡ [] → IsPassed columns cs 0 rest
IsPassed-end columns before cs now rest h e f = λ low high lt.
    h low high lt ∙ ap (λ t. written (pos low -ℤ pos before) t low high) e ∙ written-none (pos low -ℤ pos before) low high
    ∙ sym (ap (λ t. fit (high - low) t) f ∙ fit-none (high - low)) ∙ no_blanks (high - low) (high - low) rest

crossing_blanks : (low high before width : ℕ) → low < high → before < width
    → or_zero (int_min (pos high) ((pos low -ℤ pos before) +ℤ pos width) -ℤ pos low) ≡ min (width - before) (high - low)
crossing_blanks low high before width h lt = omega (arith, places)

crossing_place : (low before width : ℕ) → before < width → (pos low -ℤ pos before) +ℤ pos width ≡ pos (low + (width - before))
crossing_place low before width lt = omega (arith, places)

-- a cluster ends at the limit or past it
pub IsPassed-crossed : (columns before width : ℕ) (cs now rest : List Cluster) (c : Cluster) → AllKept rest → IsNearer columns cs before now → now ≡ c ∷ rest → c.1 ≡ width → 0 < before → before ≤ width
    → IsPassed columns cs (width - before) rest
IsPassed-crossed columns before width cs now rest c kept h e w some le =
    ⊎_elim
    (λ (crosses : before < width). λ low high lt.
    let column = pos low -ℤ pos before in
    let begins : column <ℤ pos low = omega (arith, places) in
    let ends : pos low <ℤ (column +ℤ pos c.1) = omega (arith, places) in
    let blanks : or_zero (int_min (pos high) (column +ℤ pos c.1) -ℤ pos low) ≡ min (width - before) (high - low) = rw w (crossing_blanks low high before width lt crosses) in
    let place : column +ℤ pos c.1 ≡ pos (low + (width - before)) = rw w (crossing_place low before width crosses) in
    let left : high - (low + (width - before)) ≡ high - low - (width - before) = omega arith in
    h low high lt ∙ ap (λ t. written column t low high) e ∙ written-crossing column c rest low high begins ends
    ∙ ap₂ (λ n t. replicate n blank ++ t) blanks
    (ap (λ z. written z rest low high) place ∙ written-fit rest (low + (width - before)) low high kept (omega arith) ∙ ap (λ n. fit n rest) left))
    (λ (touches : width ≤ before).
    let none : width - before ≡ 0 = omega arith in
    let nearer = IsNearer-more columns before width cs now rest c h e w touches in
    subst (λ n. IsPassed columns cs n rest) (sym none) (IsPassed-at_limit columns (before - width) cs rest kept nearer (omega arith)))
    (cases_lt before width)

-- clusters of `passed` columns that begin before the limit were skipped
pub record HasPassed (columns : ℕ) (cs : List Cluster) (passed : ℕ) (rest : List Cluster) : Type 0 where
  pub nearer : passed < columns → IsNearer columns cs (columns - passed) rest
  pub reached : columns ≤ passed → IsPassed columns cs (passed - columns) rest

pub HasPassed-none : (columns : ℕ) (cs : List Cluster) → AllKept cs → HasPassed columns cs 0 cs
HasPassed-none columns cs all = record {
  nearer = λ h. let left : columns ≡ columns - 0 = omega arith in subst (λ n. IsNearer columns cs n cs) left (IsNearer-none columns cs);
  reached = λ h.
      let none : 0 - columns ≡ 0 = omega arith in
      subst (λ n. IsPassed columns cs n cs) (sym none) (IsPassed-at_limit columns columns cs cs all (IsNearer-none columns cs) (omega (arith, h)));
}

pub HasPassed-more : (columns passed width : ℕ) (cs now rest : List Cluster) (c : Cluster) → AllKept rest → HasPassed columns cs passed now → passed < columns → now ≡ c ∷ rest → c.1 ≡ width
    → HasPassed columns cs (passed + width) rest
HasPassed-more columns passed width cs now rest c all h lt e w = record {
  nearer = λ g.
      let left : columns - passed - width ≡ columns - (passed + width) = omega arith in
      subst (λ n. IsNearer columns cs n rest) left (IsNearer-more columns (columns - passed) width cs now rest c (h.nearer lt) e w (omega (arith, g)));
  reached = λ g.
      let past : width - (columns - passed) ≡ passed + width - columns = omega (arith, lt) in
      subst (λ n. IsPassed columns cs n rest) past (IsPassed-crossed columns (columns - passed) width cs now rest c all (h.nearer lt) e w (omega (arith, lt)) (omega (arith, g)));
}

pub HasPassed-end : (columns passed : ℕ) (cs now rest : List Cluster) → HasPassed columns cs passed now → passed < columns → now ≡ [] → rest ≡ [] → IsPassed columns cs (passed - columns) rest
HasPassed-end columns passed cs now rest h lt e f =
    let none : passed - columns ≡ 0 = omega (arith, lt) in
    subst (λ n. IsPassed columns cs n rest) (sym none) (IsPassed-end columns (columns - passed) cs now rest (h.nearer lt) e f)

-- ---- the columns of clusters

pub columns_of-more : (cs rest : List Cluster) (c : Cluster) → cs ≡ c ∷ rest → columns_of cs ≡ c.1 + columns_of rest
columns_of-more cs rest c e = ap columns_of e ∙ sum_by-cons (λ (k : Cluster). k.1) c rest

pub columns_of-none : (cs rest : List Cluster) → cs ≡ [] → rest ≡ [] → columns_of cs ≡ columns_of rest
columns_of-none cs rest e f = ap columns_of (e ∙ sym f)

pub clusters-pieces : (text : List ℕ) (pieces : List (List ℕ)) → pieces ≡ graphemes true text → visible_clusters pieces ≡ clusters text
unfolding clusters
clusters-pieces text pieces e = ap visible_clusters e

pub columns_of-text : (text : List ℕ) (cs : List Cluster) → cs ≡ clusters text → columns_of cs ≡ text_width text
unfolding text_width
columns_of-text text cs e = ap columns_of e

pub columns_of-pieces : (text : List ℕ) (pieces : List (List ℕ)) → pieces ≡ graphemes true text → columns_of (visible_clusters pieces) ≡ text_width text
columns_of-pieces text pieces e = columns_of-text text (visible_clusters pieces) (clusters-pieces text pieces e)

-- ---- the first column that is written

pub place_below : (column : ℤ) (low : ℕ) → column <ℤ pos low → low ≡ or_zero (int_max column (pos low))
place_below column low h = omega (arith, places)

pub IsBegun-passed : (column : ℤ) (low before blanks : ℕ) (cs rest : List Cluster) → IsPassed before cs blanks rest → pos low -ℤ pos before ≡ column → IsBegun column low cs low blanks rest
IsBegun-passed column low before blanks cs rest h e = λ high lt. ap (λ z. written z cs low high) (sym e) ∙ h low high lt

pub IsBegun-at : (column : ℤ) (low n : ℕ) (cs : List Cluster) → AllKept cs → pos low ≤ℤ column → pos n ≡ column → IsBegun column low cs n 0 cs
IsBegun-at column low n cs kept h e = λ high lt.
    let le : low ≤ n = omega (arith, places) in
    ap (λ z. written z cs low high) (sym e) ∙ written-fit cs n low high kept le ∙ no_blanks (high - n) (high - n) cs

-- ---- nothing is written where the limits leave no column

pub written-closed : (cs : List Cluster) (column : ℤ) (low high : ℕ) → high ≤ low → written column cs low high ≡ []
written-closed [] column low high h = written-none column low high
written-closed (c ∷ cs) column low high h = written-closed_cons c cs column low high h (written-closed cs (column +ℤ pos c.1) low high h)

pub written-past : (column : ℤ) (low high from blanks : ℕ) (cs rest : List Cluster) → IsBegun column low cs from blanks rest → AllKept rest → low < high → high ≤ from → written column cs low high ≡ []
written-past column low high from blanks cs rest h kept lt le =
    let none : min blanks (high - from) ≡ 0 = omega arith in
    h high lt ∙ ap₂ (λ n t. replicate n blank ++ t) none (fit-full rest (high - from - blanks) kept (omega arith))

-- ---- a symbol laid after other symbols

pub laid-step : (columns sub : List Cell) (e k : ℕ) (c : Cluster) (now rest : List Cluster) (total : List Cell) → k ≡ e + c.1 - e → e ≤ length columns → c.1 ≤ length columns - e
    → now ≡ c ∷ rest → length sub ≡ k → sub ≡ cells_of c → take e columns ++ fit (length columns - e) now ≡ total
    → take (e + c.1) (put_mid e k columns sub) ++ fit (length columns - (e + c.1)) rest ≡ total
laid-step columns sub e k c now rest total f within room g size l h =
    let left : length columns - (e + c.1) ≡ length columns - e - c.1 = omega arith in
    let front : take (e + c.1) (put_mid e k columns sub) ≡ take e columns ++ sub = take-put_mid e k columns sub (e + c.1) (omega arith) within in
    ap₂ (λ xs n. xs ++ fit n rest) front left ∙ append_assoc (take e columns) sub (fit (length columns - e - c.1) rest)
    ∙ ap (λ t. take e columns ++ (t ++ fit (length columns - e - c.1) rest)) l
    ∙ ap (λ t. take e columns ++ t) (sym (fit-cons (length columns - e) c rest room) ∙ ap (fit (length columns - e)) (sym g))
    ∙ h

pub length-put_mid : (columns sub : List Cell) (e k : ℕ) → length sub ≡ k → e + k ≤ length columns → length (put_mid e k columns sub) ≡ length columns
length-put_mid columns sub e k size le = simp (length-append, length-take, length-drop) (omega arith)

-- no cluster is left, or the next has no room
pub laid-end : (front total : List Cell) (room : ℕ) (now : List Cluster) → front ++ fit room now ≡ total → fit room now ≡ [] → front ≡ total
laid-end front total room now h e = sym (append-nil front) ∙ ap (λ t. front ++ t) (sym e) ∙ h

-- ---- a text put on a row

pub put-none : (row : List Cell) (column : ℤ) (text : List ℕ) (low high : ℕ) → written column (clusters text) low high ≡ [] → row ≡ put row column text low high
unfolding put overlay
put-none row column text low high e = rw e refl

part-put_mid : (columns sub : List Cell) (from k width : ℕ) → from ≤ length columns → width ≤ length sub
    → slice_range (put_mid from k columns sub) from (from + width) ≡ take width sub
part-put_mid columns sub from k width le within =
    let n : from + width - from ≡ width = omega arith in
    rw n (ap (take width) (drop_at (take from columns) (sub ++ drop k (drop from columns)) from (length-take-le from columns le)) ∙ take-append-le width sub (drop k (drop from columns)) within)

pub on_err : {T E P : Type 0} (r : Result T E) → P → OnErr r P
on_err (Ok x) p = tt
on_err (Err e) p = p

pub put-some : (row new buffer now sub : List Cell) (column : ℤ) (text : List ℕ) (low high from blanks width : ℕ) (cs rest : List Cluster)
    → from ≡ or_zero (int_max column (pos low)) → cs ≡ clusters text → IsBegun column low cs from blanks rest → low < high → from < high → high ≤ length buffer
    → now ≡ put_mid from (high - from) buffer sub → length sub ≡ high - from → width ≤ high - from
    → take width sub ≡ replicate (min blanks (high - from)) blank ++ fit (high - from - blanks) rest
    → new ≡ overlay row from (slice_range now from (from + width)) → new ≡ put row column text low high
unfolding put
put-some row new buffer now sub column text low high from blanks width cs rest at cut begun lt inside le made size within laid_is shows =
    let part : slice_range now from (from + width) ≡ take width sub =
    ap (λ xs. slice_range xs from (from + width)) made ∙ part-put_mid buffer sub from (high - from) width (omega arith) (omega arith) in
    let cells : slice_range now from (from + width) ≡ written column (clusters text) low high =
    part ∙ laid_is ∙ sym (begun high lt) ∙ ap (λ t. written column t low high) cut in
    shows ∙ ap₂ (overlay row) at cells

-- spaces, and then the clusters that have room
pub laid-after_blanks : {E : Type 0} (columns sub new : List Cell) (blanks k : ℕ) (result : Result Laid E) (cs : List Cluster) → k ≡ min blanks (length columns) → length sub ≡ k → sub ≡ replicate k blank
    → IfOk result (λ r. take r.end new ≡ take k (sub ++ drop k columns) ++ fit (length (sub ++ drop k columns) - k) cs)
    → IfOk result (λ r. take r.end new ≡ replicate (min blanks (length columns)) blank ++ fit (length columns - blanks) cs)
laid-after_blanks columns sub new blanks k result cs e size l h =
    let front : take k (sub ++ drop k columns) ≡ replicate (min blanks (length columns)) blank =
    take_at sub (drop k columns) k size ∙ l ∙ ap (λ n. replicate n blank) e in
    let room : length (sub ++ drop k columns) - k ≡ length columns - blanks = simp (length-append, length-drop) (omega arith) in
    IfOk-weaker result _ _ (λ r p. p ∙ ap₂ (λ xs n. xs ++ fit n cs) front room) h
