-- No text takes more than four columns a byte, whatever its bytes are, and none in UTF-8 more than two.
use Rattle.std.proofs.Common.{◌≡◌, ℕ, zero, suc, ◌+◌, ◌-◌, ◌*◌, ◌≤◌, ◌<◌, Bool, true, false, List, [], ◌∷◌, ◌++◌, Option, Some, None, length, map, sum_by, refl, sym, ap, ◌∙◌, arith, length-append, append-nil}
use Rattle.std.specs.Int.{is_in_range}
use Rattle.std.specs.Prelude.{if◌then◌else◌, nat_le, nat_lt, ◌==◌, ◌&&◌, not, encode_utf8, encode_utf8_all, option_map}
use Rattle.std.specs.List.{All, filter_map, cons_option}
use Rattle.std.specs.Str.{chars, chars_after, continuation_len, lead_bits, IsUtf8, all_scalars}
use Rattle.std.proofs.lemmas.Bool.Decides.{nat_tests}
use Rattle.std.proofs.lemmas.List.Sums.{sum_by-cons}
use Rattle.std.proofs.lemmas.List.Elements.{All-nil, All-cons}
use Rattle.std.proofs.lemmas.Str.{length-encode, chars-encodes}
use Rattle.unicode_segmentation.specs.Segments.{Rule, cut, prepend, segments}
use Rattle.unicode_segmentation.specs.Grapheme.{graphemes, is_grapheme_break}
use Rattle.unicode_width.specs.declared.kind.Kind.{Kind}
use Rattle.unicode_width.specs.declared.kind.Kind.TheVariants as kinds
use Rattle.unicode_width.specs.declared.state.After.{After}
use Rattle.unicode_width.specs.declared.state.After.TheVariants.{LineFeed}
use Rattle.unicode_width.specs.declared.state.State.{State}
use Rattle.unicode_width.specs.declared.state.Change.{Change}
use Rattle.unicode_width.specs.declared.state.Change.TheVariants.{Less, Same, One, Three}
use Rattle.unicode_width.specs.Kind.{kind}
use Rattle.unicode_width.specs.Width.{before, is_striking, is_line_feed, is_plain, plain, single, of_kind, alone, changed, Reading, added, joined_or, past_selectors, in_context, past_emoji, joins, step, read_before, str_width, if_kept}
use Rattle.scm_cells.specs.Cluster.{Cluster, IsNarrow}
use Rattle.scm_cells.specs.Clusters.{has_control, visible_clusters, visible_width, with_width, clusters, text_width}

-- ---- the bytes of a character

-- a lower bound of the bytes of a character
abbrev pub size : ℕ → ℕ
size c = if nat_lt c 128 then 1 else 2

size-lead : (b : ℕ) → continuation_len b ≡ 0 → size (lead_bits b) ≤ 1
size-lead b e = grind (arith, nat_tests)

pub size-some : (c : ℕ) → 1 ≤ size c
size-some c = grind arith

size-le : (c : ℕ) → size c ≤ 2
size-le c = grind arith

-- the bytes that remain of a character, after `before` of its bytes, if `n` more follow
sizes-after : (n c before : ℕ) (bs : List ℕ) → (n ≡ 0 → size c ≤ before) → (0 < n → 1 ≤ before) → sum_by size (chars_after n c bs) ≤ before + length bs
sizes-after zero c before [] last more = let e = sum_by-cons size c [] in let p = last refl in omega (arith, e, p)
sizes-after zero c before (b ∷ bs) last more =
    let e = sum_by-cons size c (chars_after (continuation_len b) (lead_bits b) bs) in
    let p = last refl in
    let rest = sizes-after (continuation_len b) (lead_bits b) 1 bs (size-lead b) (λ some. omega arith) in
    omega (arith, e, p, rest)
sizes-after (suc n) c before [] last more = omega arith
sizes-after (suc n) c before (b ∷ bs) last more =
    let some = more (omega arith) in
    let two = size-le (c * 64 + (b - 128)) in
    let rest = sizes-after n (c * 64 + (b - 128)) (before + 1) bs (λ e. omega (arith, some, two)) (λ left. omega arith) in
    omega (arith, rest)

pub sizes-le : (bs : List ℕ) → sum_by size (chars bs) ≤ length bs
unfolding chars
sizes-le [] = omega arith
sizes-le (b ∷ bs) = let e = sizes-after (continuation_len b) (lead_bits b) 1 bs (size-lead b) (λ some. omega arith) in omega (arith, e)

pub encode-size : (c : ℕ) → length (encode_utf8 c) ≤ 2 * size c
encode-size c = grind (arith, nat_tests, length-encode c)

encodes-sizes : (cs : List ℕ) → length (encode_utf8_all cs) ≤ 2 * sum_by size cs
encodes-sizes [] = omega arith
encodes-sizes (c ∷ cs) =
    let e : length (encode_utf8_all (c ∷ cs)) ≡ length (encode_utf8 c) + length (encode_utf8_all cs) = length-append (encode_utf8 c) (encode_utf8_all cs) in
    omega (arith, e, encode-size c, encodes-sizes cs, sum_by-cons size c cs)

-- ---- columns

if-le : (b : Bool) (x y : Reading) (n : ℕ) → x.0 ≤ n → y.0 ≤ n → (if b then x else y).0 ≤ n
if-le true x y n p q = p
if-le false x y n p q = q

single-le : (cjk : Bool) (c : ℕ) → (single cjk c).0 ≤ 3
single-le cjk c = grind arith

of_kind-le : (cjk : Bool) (c : ℕ) (k : Kind) → (of_kind cjk c k).0 ≤ 3
of_kind-le cjk c kinds.Zero = omega arith
of_kind-le cjk c kinds.Narrow = omega arith
of_kind-le cjk c kinds.Wide = omega arith
of_kind-le cjk c kinds.Ambiguous = grind arith
of_kind-le cjk c kinds.Alef = omega arith
of_kind-le cjk c kinds.KhmerLetter = omega arith
of_kind-le cjk c kinds.TifinaghConsonant = omega arith
of_kind-le cjk c kinds.LisuTone = omega arith
of_kind-le cjk c kinds.RegionalIndicator = omega arith
of_kind-le cjk c kinds.EmojiModifier = omega arith
of_kind-le cjk c kinds.Emoji = omega arith
of_kind-le cjk c kinds.Single = single-le cjk c

alone-le : (cjk : Bool) (c : ℕ) → (alone cjk c).0 ≤ 3
unfolding alone
alone-le cjk c = of_kind-le cjk c (kind c)

changed-le : (total : ℕ) (h : Change) → changed total h ≤ total + 3
changed-le total Less = omega arith
changed-le total Same = omega arith
changed-le total One = omega arith
changed-le total Three = omega arith

joined-le : (total : ℕ) (o : Option (Change × After)) (own : ℕ × State) → own.0 ≤ 3 → (joined_or total o own).0 ≤ total + 3
joined-le total (Some j) own h = changed-le total j.0
joined-le total None own h = omega (arith, h)

past_selectors-le : (cjk : Bool) (c total : ℕ) (after : After) → (past_selectors cjk c total after).0 ≤ total + 3
unfolding past_selectors
past_selectors-le cjk c total after = grind (arith, alone-le cjk c, joined-le total (joins cjk after c) (alone cjk c) (alone-le cjk c))

in_context-le : (cjk : Bool) (c total : ℕ) (s : State) → (in_context cjk c total s).0 ≤ total + 3
unfolding in_context
in_context-le cjk c total s = grind (arith, alone-le cjk c, past_selectors-le cjk c total s.after)

past_emoji-le : (cjk : Bool) (c total : ℕ) (s : State) → (past_emoji cjk c total s).0 ≤ total + 3
unfolding past_emoji
past_emoji-le cjk c total s =
    let z : total ≤ total + 3 = omega arith in
    let one : total + 1 ≤ total + 3 = omega arith in
    let two : total + 2 ≤ total + 3 = omega arith in
    let own : total + (alone cjk c).0 ≤ total + 3 = omega (arith, alone-le cjk c) in
    if-le (((cjk && is_striking s.after) && not s.quote) && is_in_range 0x3C 0x3E c) (total + 2, plain) _ (total + 3) two
    (if-le (c == 0x0A) (total + 1, before LineFeed) _ (total + 3) one
    (if-le ((c == 0x0D) && is_line_feed s.after) (total, plain) _ (total + 3) z
    (if-le (nat_le c 0xA0) (total + 1, plain) _ (total + 3) one
    (if-le (is_plain s) (added total (alone cjk c)) (in_context cjk c total s) (total + 3) own (in_context-le cjk c total s)))))

step-le : (cjk : Bool) (c : ℕ) (r : Reading) → (step cjk c r).0 ≤ r.0 + 3
unfolding step
step-le cjk c (total, s) = grind (arith, past_emoji-le cjk c total s, past_emoji-le cjk c total (record (if_kept s) { emoji = false }))

-- a character up to U+00A0 adds at most two columns
past_emoji-low : (cjk : Bool) (c total : ℕ) (s : State) → nat_le c 0xA0 ≡ true → (past_emoji cjk c total s).0 ≤ total + 2
unfolding past_emoji
past_emoji-low cjk c total s low =
    let z : total ≤ total + 2 = omega arith in
    let one : total + 1 ≤ total + 2 = omega arith in
    let two : total + 2 ≤ total + 2 = omega arith in
    rw low
    (if-le (((cjk && is_striking s.after) && not s.quote) && is_in_range 0x3C 0x3E c) (total + 2, plain) _ (total + 2) two
    (if-le (c == 0x0A) (total + 1, before LineFeed) _ (total + 2) one
    (if-le ((c == 0x0D) && is_line_feed s.after) (total, plain) (total + 1, plain) (total + 2) z one)))

step-low : (cjk : Bool) (c : ℕ) (r : Reading) → nat_le c 0xA0 ≡ true → (step cjk c r).0 ≤ r.0 + 2
unfolding step
step-low cjk c (total, s) low = grind (arith, past_emoji-low cjk c total s low, past_emoji-low cjk c total (record (if_kept s) { emoji = false }) low)

step-size : (cjk : Bool) (c : ℕ) (r : Reading) → (step cjk c r).0 ≤ r.0 + 2 * size c
step-size cjk c r = by_test (nat_le c 0xA0) refl
  where
    by_test : (low : Bool) → nat_le c 0xA0 ≡ low → (step cjk c r).0 ≤ r.0 + 2 * size c
    by_test true e = let n = step-low cjk c r e in grind (arith, nat_tests)
    by_test false e = let n = step-le cjk c r in grind (arith, nat_tests)

read-le : (cjk : Bool) (cs : List ℕ) (r : Reading) → (read_before cjk cs r).0 ≤ r.0 + 2 * sum_by size cs
read-le cjk [] r = omega arith
read-le cjk (c ∷ cs) r = omega (arith, step-size cjk c (read_before cjk cs r), read-le cjk cs r, sum_by-cons size c cs)

str_width-le : (bs : List ℕ) → str_width false (chars bs) ≤ 2 * length bs
unfolding str_width
str_width-le bs = let e = read-le false (chars bs) (0, plain) in let n = sizes-le bs in omega (arith, e, n)

-- ---- clusters

if_some : (b : Bool) (m n w : ℕ) → m ≤ n → (if b then None else Some m) ≡ Some w → w ≤ n
if_some true m n w h e = absurd (cc e)
if_some false m n w h e = let f : m ≡ w = cc e in omega (arith, h, f)

if_none : (b : Bool) (o : Option ℕ) (n w : ℕ) → (o ≡ Some w → w ≤ n) → (if b then None else o) ≡ Some w → w ≤ n
if_none true o n w h e = absurd (cc e)
if_none false o n w h e = h e

-- a cluster takes at most two columns a byte
pub kept_width-le : (piece : List ℕ) (w : ℕ) → visible_width piece ≡ Some w → w ≤ 2 * length piece
unfolding visible_width
kept_width-le piece w e =
    let width = str_width false (chars piece) in
    if_none (has_control piece) (if width == 0 then None else Some width) (2 * length piece) w (if_some (width == 0) width (2 * length piece) w (str_width-le piece)) e

narrow_more : (o : Option ℕ) (piece : List ℕ) (rest : List Cluster) → ((w : ℕ) → o ≡ Some w → w ≤ 2 * length piece) → All IsNarrow rest
    → All IsNarrow (cons_option (option_map (λ w. (piece, w)) o) rest)
narrow_more None piece rest h all = all
narrow_more (Some w) piece rest h all = All-cons IsNarrow (piece, w) rest (h w refl) all

pub kept-narrow : (pieces : List (List ℕ)) → All IsNarrow (visible_clusters pieces)
unfolding visible_clusters with_width
kept-narrow [] = All-nil IsNarrow
kept-narrow (p ∷ ps) = narrow_more (visible_width p) p (filter_map with_width ps) (kept_width-le p) (kept-narrow ps)

pub clusters-narrow : (text : List ℕ) → All IsNarrow (clusters text)
unfolding clusters
clusters-narrow text = kept-narrow (graphemes true text)

-- ---- texts

one_more : (o : Option ℕ) (piece : List ℕ) (rest : List Cluster) (n : ℕ) → ((w : ℕ) → o ≡ Some w → w ≤ n)
    → sum_by (λ (c : Cluster). c.1) (cons_option (option_map (λ w. (piece, w)) o) rest) ≤ n + sum_by (λ (c : Cluster). c.1) rest
one_more None piece rest n h = omega arith
one_more (Some w) piece rest n h =
    let e = sum_by-cons (λ (c : Cluster). c.1) (piece, w) rest in
    let b = h w refl in
    omega (arith, e, b)

-- how many bytes spell the characters
abbrev bytes : List ℕ → ℕ
bytes cs = length (encode_utf8_all cs)

columns-le : (ps : List (List ℕ)) → sum_by (λ (c : Cluster). c.1) (filter_map with_width (map encode_utf8_all ps)) ≤ 2 * sum_by bytes ps
unfolding with_width
columns-le [] = omega arith
columns-le (p ∷ ps) =
    let piece = encode_utf8_all p in
    let e = one_more (visible_width piece) piece (filter_map with_width (map encode_utf8_all ps)) (2 * length piece) (kept_width-le piece) in
    let rest = columns-le ps in
    let sum = sum_by-cons bytes p ps in
    omega (arith, e, rest, sum)

bytes-one : (c : ℕ) → bytes (c ∷ []) ≡ length (encode_utf8 c)
bytes-one c = ap length (append-nil (encode_utf8 c))

bytes-prepended : (c : ℕ) (ps : List (List ℕ)) → sum_by bytes (prepend (c ∷ []) ps) ≡ length (encode_utf8 c) + sum_by bytes ps
bytes-prepended c [] = let e = sum_by-cons bytes (c ∷ []) [] in let f = bytes-one c in omega (arith, e, f)
bytes-prepended c (p ∷ ps) =
    let e = sum_by-cons bytes ((c ∷ []) ++ p) ps in
    let f = sum_by-cons bytes p ps in
    let g : bytes ((c ∷ []) ++ p) ≡ length (encode_utf8 c) + bytes p = length-append (encode_utf8 c) (encode_utf8_all p) in
    omega (arith, e, f, g)

bytes-either : (b : Bool) (c : ℕ) (ps : List (List ℕ)) → sum_by bytes (if b then (c ∷ []) ∷ ps else prepend (c ∷ []) ps) ≡ length (encode_utf8 c) + sum_by bytes ps
bytes-either true c ps = let e = sum_by-cons bytes (c ∷ []) ps in let f = bytes-one c in omega (arith, e, f)
bytes-either false c ps = bytes-prepended c ps

bytes-cut : (rule : Rule) (before cs after : List ℕ) → sum_by bytes (cut rule before cs after) ≡ bytes cs
unfolding cut
bytes-cut rule before [] after = refl
bytes-cut rule before (c ∷ cs) after =
    let e = bytes-either (rule (c ∷ before) (cs ++ after)) c (cut rule (c ∷ before) cs after) in
    let f = bytes-cut rule (c ∷ before) cs after in
    let g : bytes (c ∷ cs) ≡ length (encode_utf8 c) + bytes cs = length-append (encode_utf8 c) (encode_utf8_all cs) in
    omega (arith, e, f, g)

-- a text takes at most two columns for each byte that its characters have in UTF-8
text_width-chars : (text : List ℕ) → text_width text ≤ 2 * bytes (chars text)
unfolding text_width clusters visible_clusters segments
text_width-chars text =
    let e = columns-le (cut (is_grapheme_break true) [] (chars text) []) in
    let f = bytes-cut (is_grapheme_break true) [] (chars text) [] in
    omega (arith, e, f)

-- no text takes more than four columns a byte
pub text_width-le : (text : List ℕ) → text_width text ≤ 4 * length text
text_width-le text =
    let e = text_width-chars text in
    let f = encodes-sizes (chars text) in
    let g = sizes-le text in
    omega (arith, e, f, g)

-- and none in UTF-8 more than two
pub text_width-utf8 : (text : List ℕ) → IsUtf8 text → text_width text ≤ 2 * length text
text_width-utf8 text u =
    let e = text_width-chars text in
    let same : encode_utf8_all (chars text) ≡ text = utf8-spelt text u.0 u.1.0 u.1.1 in
    let f = ap length same in
    omega (arith, e, f)
  where
    utf8-spelt : (t cs : List ℕ) → all_scalars cs ≡ true → encode_utf8_all cs ≡ t → encode_utf8_all (chars t) ≡ t
    utf8-spelt t cs s e = ap (λ x. encode_utf8_all (chars x)) (sym e) ∙ ap encode_utf8_all (chars-encodes cs s) ∙ e
