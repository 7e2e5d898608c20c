-- A version without changes of blanks.
use Rattle.std.proofs.Common.{◌≡◌, ℕ, ◌+◌, ◌-◌, ◌<◌, ◌≤◌, List, [], ◌∷◌, ◌++◌, length, map, take, drop, get_or, refl, ap, sym, ◌∙◌, subst, arith, append_assoc}
use Rattle.std.specs.Prelude.{slice_range}
use Rattle.std.proofs.lemmas.List.{drop-map, take-map, length-map, map-append, drop-drop, drop_more, drop_all, take-append-drop}
use Rattle.scm_diff.specs.declared.hunk.Hunk.{Hunk}
use Rattle.scm_diff.specs.Hunks.{AreHunks, AreHunksFrom}
use Rattle.scm_embed.specs.Lines.{lines_of}
use Rattle.scm_diff.specs.Blanks.{IsTextWithoutBlankChanges, count_other, kept_lines, squeezed}
use Rattle.scm_diff.specs.Sides.{text_of}

-- a list from place j on, cut into its next `run` and `more` elements and the rest
cut-in-three : (xs : List (List ℕ)) (j run more : ℕ) → (take run (drop j xs) ++ take more (drop (j + run) xs)) ++ drop (j + run + more) xs ≡ drop j xs
cut-in-three xs j run more =
    let rest : drop (j + run + more) xs ≡ drop more (drop (j + run) xs) = sym (drop-drop more (j + run) xs) in
    let second : take more (drop (j + run) xs) ++ drop (j + run + more) xs ≡ drop run (drop j xs) =
    ap (λ ys. take more (drop (j + run) xs) ++ ys) rest ∙ take-append-drop more (drop (j + run) xs) ∙ sym (drop-drop run j xs) in
    append_assoc (take run (drop j xs)) (take more (drop (j + run) xs)) (drop (j + run + more) xs)
    ∙ ap (λ ys. take run (drop j xs) ++ ys) second
    ∙ take-append-drop run (drop j xs)

-- without blanks the kept lines are those of the new version
kept-from : (old new : List (List ℕ)) (least i j : ℕ) (hs : List Hunk) → AreHunksFrom (map squeezed old) (map squeezed new) least i j hs → map squeezed (kept_lines old new i hs) ≡ drop j (map squeezed new)
kept-from old new least i j [] r = sym (drop-map squeezed i old) ∙ r
kept-from old new least i j (h ∷ hs) r =
    let n = r.0 in
    let before : map squeezed (slice_range old i h.old_start) ≡ take n.run (drop j (map squeezed new)) =
    sym (take-map squeezed (h.old_start - i) (drop i old))
    ∙ ap (λ xs. take (h.old_start - i) xs) (sym (drop-map squeezed i old))
    ∙ ap (λ k. take k (drop i (map squeezed old))) (let e = n.old_begins in omega arith)
    ∙ n.common in
    let within : map squeezed (slice_range new h.new_start h.new_end) ≡ take (h.new_end - h.new_start) (drop (j + n.run) (map squeezed new)) =
    sym (take-map squeezed (h.new_end - h.new_start) (drop h.new_start new))
    ∙ ap (λ xs. take (h.new_end - h.new_start) xs) (sym (drop-map squeezed h.new_start new) ∙ ap (λ k. drop k (map squeezed new)) n.new_begins) in
    let after : map squeezed (kept_lines old new h.old_end hs) ≡ drop (j + n.run + (h.new_end - h.new_start)) (map squeezed new) =
    kept-from old new 1 h.old_end h.new_end hs r.1
    ∙ ap (λ k. drop k (map squeezed new)) (let e = n.new_begins in let o = n.new_order in omega arith) in
    map-append squeezed (slice_range old i h.old_start ++ slice_range new h.new_start h.new_end) (kept_lines old new h.old_end hs)
    ∙ ap (λ xs. xs ++ map squeezed (kept_lines old new h.old_end hs)) (map-append squeezed (slice_range old i h.old_start) (slice_range new h.new_start h.new_end))
    ∙ ap (λ xs. (xs ++ map squeezed (slice_range new h.new_start h.new_end)) ++ map squeezed (kept_lines old new h.old_end hs)) before
    ∙ ap (λ xs. (take n.run (drop j (map squeezed new)) ++ xs) ++ map squeezed (kept_lines old new h.old_end hs)) within
    ∙ ap (λ xs. (take n.run (drop j (map squeezed new)) ++ take (h.new_end - h.new_start) (drop (j + n.run) (map squeezed new))) ++ xs) after
    ∙ cut-in-three (map squeezed new) j n.run (h.new_end - h.new_start)

pub kept-same : (old new : List (List ℕ)) (hs : List Hunk) → AreHunks (map squeezed old) (map squeezed new) hs → map squeezed (kept_lines old new 0 hs) ≡ map squeezed new
kept-same old new hs r = kept-from old new 0 0 0 hs r

pub kept-count : (old new : List (List ℕ)) (hs : List Hunk) → AreHunks (map squeezed old) (map squeezed new) hs → length (kept_lines old new 0 hs) ≡ length new
kept-count old new hs r = sym (length-map (kept_lines old new 0 hs) squeezed) ∙ ap length (kept-same old new hs r) ∙ length-map new squeezed

-- one more line is counted
pub count-more : (ls ms : List (List ℕ)) (i : ℕ) (l m : List ℕ) → i < length ls → i < length ms → l ≡ get_or ls i l → m ≡ get_or ms i m → count_other (drop i ls) (drop i ms) ≡ count_other (l ∷ []) (m ∷ []) + count_other (drop (i + 1) ls) (drop (i + 1) ms)
count-more ls ms i l m h k e f =
    let one : drop i ls ≡ l ∷ drop (i + 1) ls = rw (drop_more ls i l h, ← e) refl in
    let other : drop i ms ≡ m ∷ drop (i + 1) ms = rw (drop_more ms i m k, ← f) refl in
    ap (λ x. count_other x (drop i ms)) one ∙ ap (λ x. count_other (l ∷ drop (i + 1) ls) x) other ∙ omega arith

pub count-end : (ls ms : List (List ℕ)) (i : ℕ) → length ls ≤ i → count_other (drop i ls) (drop i ms) ≡ 0
count-end ls ms i h = ap (λ x. count_other x (drop i ms)) (drop_all i ls h)

-- the text of the lines that are kept
pub text-found : (old new : List ℕ) (olds news lines : List (List ℕ)) (hs : List Hunk) (text : List ℕ) (count : ℕ) → olds ≡ lines_of old → news ≡ lines_of new → AreHunks (map squeezed olds) (map squeezed news) hs → lines ≡ kept_lines olds news 0 hs → text ≡ text_of lines → count ≡ count_other lines news → IsTextWithoutBlankChanges old new text count
text-found old new olds news lines hs text count o n h l t k =
    let found : AreHunks (map squeezed (lines_of old)) (map squeezed (lines_of new)) hs =
    subst (λ x. AreHunks (map squeezed x) (map squeezed (lines_of new)) hs) o (subst (λ x. AreHunks (map squeezed olds) (map squeezed x) hs) n h) in
    let kept : lines ≡ kept_lines (lines_of old) (lines_of new) 0 hs =
    l ∙ ap (λ x. kept_lines x news 0 hs) o ∙ ap (λ x. kept_lines (lines_of old) x 0 hs) n in
    record {
      hunks = hs;
      are_hunks = found;
      text_is = t ∙ ap text_of kept;
      same = kept-same (lines_of old) (lines_of new) hs found;
      count = k ∙ ap (λ x. count_other x news) kept ∙ ap (λ x. count_other (kept_lines (lines_of old) (lines_of new) 0 hs) x) n;
    }
