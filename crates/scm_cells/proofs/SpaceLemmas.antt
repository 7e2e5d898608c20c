-- What a put of spaces makes of a row.
use Rattle.std.proofs.Common.{◌≡◌, ℕ, zero, suc, ◌+◌, ◌-◌, ◌^◌, ◌<◌, ◌≤◌, min, max, true, List, [], ◌∷◌, ◌++◌, length, replicate, drop, append-nil, refl, sym, ap, ap₂, ◌∙◌, arith, ⊎_elim}
use Rattle.std.specs.Prelude.{ℤ, pos, negsuc, ◌+ℤ◌, ◌-ℤ◌, ◌≤ℤ◌}
use Rattle.std.specs.Int.{int_min, int_max}
use Rattle.std.specs.Str.{IsUtf8}
use Rattle.std.proofs.lemmas.Bool.{cases_lt}
use Rattle.std.proofs.lemmas.Int.{ints, by_lt_z}
use Rattle.std.proofs.lemmas.Str.{IsUtf8-from_ascii}
use Rattle.std.proofs.lemmas.List.{length-replicate, drop_all}
use Rattle.scm_cells.specs.Rect.{or_zero}
use Rattle.scm_cells.specs.Cluster.{Cluster, is_printable, bytes_as_clusters}
use Rattle.scm_cells.specs.Clusters.{clusters}
use Rattle.scm_cells.specs.Cell.{Cell, blank}
use Rattle.scm_cells.specs.Row.{cells_of, later_cells, whole_before, whole_after, written, overlay, put}
use Rattle.scm_cells.specs.Laying.{fit}
use Rattle.scm_cells.proofs.RectLemmas.{places}
use Rattle.scm_cells.proofs.WrittenLemmas.{AllKept, written-none, written-skipped, written-closed, written-fit, fit-cons, fit-stop, fit-none}
use Rattle.scm_cells.proofs.PrintableLemmas.{clusters-printable, IsAscii-printable}

-- a space as a cluster
abbrev pub space : Cluster
space = (32 ∷ [], 1)

printable-spaces : (n : ℕ) → is_printable (replicate n 32) ≡ true
printable-spaces zero = refl
printable-spaces (suc n) = printable-spaces n

bytes-spaces : (n : ℕ) → bytes_as_clusters (replicate n 32) ≡ replicate n space
unfolding bytes_as_clusters
bytes-spaces zero = refl
bytes-spaces (suc n) = ap (λ cs. space ∷ cs) (bytes-spaces n)

pub clusters-spaces : (n : ℕ) → clusters (replicate n 32) ≡ replicate n space
clusters-spaces n = clusters-printable (replicate n 32) (printable-spaces n) ∙ bytes-spaces n

AllKept-spaces : (n : ℕ) → AllKept (replicate n space)
AllKept-spaces zero = tt
AllKept-spaces (suc n) = (record { bytes = omega arith; columns = omega arith }, AllKept-spaces n)

pub cells-space : cells_of space ≡ blank ∷ []
unfolding cells_of later_cells
cells-space = refl

fit-spaces : (n room : ℕ) → fit room (replicate n space) ≡ replicate (min n room) blank
fit-spaces zero room = let none : min 0 room ≡ 0 = omega arith in fit-none room ∙ ap (λ k. replicate k blank) (sym none)
fit-spaces (suc n) room =
    ⊎_elim
    (λ (full : room < 1). let none : min (suc n) room ≡ 0 = omega arith in fit-stop room space (replicate n space) full ∙ ap (λ k. replicate k blank) (sym none))
    (λ (some : 1 ≤ room).
    let more : suc (min n (room - 1)) ≡ min (suc n) room = omega arith in
    fit-cons room space (replicate n space) some ∙ ap₂ (λ a b. a ++ b) cells-space (fit-spaces n (room - 1)) ∙ ap (λ k. replicate k blank) more)
    (cases_lt room 1)

-- `n` spaces put within the limits are `n` blanks over the row
pub put-spaces : (row : List Cell) (at n low high : ℕ) → low ≤ at → at + n ≤ high → put row (pos at) (replicate n 32) low high ≡ overlay row at (replicate n blank)
unfolding put
put-spaces row at n low high l h =
    let from : or_zero (int_max (pos at) (pos low)) ≡ at = omega (arith, places, l) in
    let all : min n (high - at) ≡ n = omega (arith, h) in
    let cells = ap (λ cs. written (pos at) cs low high) (clusters-spaces n) ∙ written-fit (replicate n space) at low high (AllKept-spaces n) l ∙ fit-spaces n (high - at) ∙ ap (λ k. replicate k blank) all in
    rw (from, cells) refl

overlay-whole : (row cells : List Cell) → length row ≡ length cells → overlay row 0 cells ≡ cells
unfolding overlay whole_before whole_after
overlay-whole [] [] h = refl
overlay-whole (r ∷ rs) [] h = absurd (omega (arith, h))
overlay-whole row (c ∷ cs) h =
    let gone : drop (0 + length (c ∷ cs)) row ≡ [] = drop_all (0 + length (c ∷ cs)) row (omega (arith, h)) in
    rw gone (append-nil (c ∷ cs))

-- spaces over a whole row leave it blank
pub put-spaces_whole : (row : List Cell) (n : ℕ) → length row ≡ n → put row (pos 0) (replicate n 32) 0 n ≡ replicate n blank
put-spaces_whole row n h = put-spaces row 0 n 0 n (omega arith) (omega arith) ∙ overlay-whole row (replicate n blank) (h ∙ sym (length-replicate n blank))

-- ---- spaces that the limits clip

-- the columns of `n` columns from `column` on between the limits
abbrev pub columns_between : ℤ → ℕ → ℕ → ℕ → ℕ
columns_between column n low high = or_zero (int_min (pos high) (column +ℤ pos n) -ℤ int_max column (pos low))

written-from_low : (n : ℕ) (column : ℤ) (low high : ℕ) → pos low ≤ℤ column → written column (replicate n space) low high ≡ replicate (columns_between column n low high) blank
written-from_low n (pos at) low high h =
    let count : min n (high - at) ≡ columns_between (pos at) n low high = omega (arith, places) in
    written-fit (replicate n space) at low high (AllKept-spaces n) (omega (arith, places)) ∙ fit-spaces n (high - at) ∙ ap (λ k. replicate k blank) count
written-from_low n (negsuc m) low high h = absurd (omega (arith, ints))

written-open : (n : ℕ) (column : ℤ) (low high : ℕ) → low < high → written column (replicate n space) low high ≡ replicate (columns_between column n low high) blank
written-open zero column low high h =
    let none : columns_between column 0 low high ≡ 0 = omega (arith, places) in
    written-none column low high ∙ ap (λ k. replicate k blank) (sym none)
written-open (suc n) column low high h =
    by_lt_z column (pos low)
    (λ before.
    let count : columns_between (column +ℤ pos 1) n low high ≡ columns_between column (suc n) low high = omega (arith, places) in
    written-skipped column space (replicate n space) low high h (omega (arith, places)) ∙ written-open n (column +ℤ pos 1) low high h ∙ ap (λ k. replicate k blank) count)
    (λ begun. written-from_low (suc n) column low high begun)

written-spaces : (n : ℕ) (column : ℤ) (low high : ℕ) → written column (replicate n space) low high ≡ replicate (columns_between column n low high) blank
written-spaces n column low high =
    ⊎_elim (λ (some : low < high). written-open n column low high some)
    (λ (none : high ≤ low).
    let count : columns_between column n low high ≡ 0 = omega (arith, places) in
    written-closed (replicate n space) column low high none ∙ ap (λ k. replicate k blank) (sym count))
    (cases_lt low high)

pub put-spaces_clipped : (row : List Cell) (column : ℤ) (n low high from count : ℕ) → from ≡ or_zero (int_max column (pos low)) → count ≡ columns_between column n low high
    → overlay row from (replicate count blank) ≡ put row column (replicate n 32) low high
unfolding put
put-spaces_clipped row column n low high from count e f =
    let cells = ap (λ cs. written column cs low high) (clusters-spaces n) ∙ written-spaces n column low high ∙ ap (λ k. replicate k blank) (sym f) in
    ap₂ (overlay row) e (sym cells)

-- where such spaces begin, and how many there are
pub spaces-from : (column : ℤ) (low start from : ℕ) → start ≡ or_zero (column -ℤ pos 0) → from ≡ max low start → from ≡ or_zero (int_max column (pos low))
spaces-from column low start from e f = omega (arith, places)

pub spaces-count : (column : ℤ) (n low high start hidden visible end from past : ℕ) → start ≡ or_zero (column -ℤ pos 0) → hidden ≡ or_zero (pos 0 -ℤ column) → visible ≡ n - hidden
    → end ≡ min (start + visible) (2 ^ 64 - 1) → from ≡ max low start → past ≡ min high end → high < 2 ^ 64 → past - from ≡ columns_between column n low high
spaces-count (pos m) n low high start hidden visible end from past a b d e f g h = omega (arith, places)
spaces-count (negsuc m) n low high start hidden visible end from past a b d e f g h = omega (arith, places)

-- spaces are text
pub IsUtf8-spaces : (n : ℕ) → IsUtf8 (replicate n 32)
IsUtf8-spaces n = IsUtf8-from_ascii (replicate n 32) (IsAscii-printable (replicate n 32) (printable-spaces n))
