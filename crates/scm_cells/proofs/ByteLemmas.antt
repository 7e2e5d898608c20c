-- What a put of printable ASCII makes of a row: each byte is a symbol of one column.
use Rattle.std.proofs.Common.{◌≡◌, ℕ, zero, suc, ◌+◌, ◌-◌, ◌<◌, ◌≤◌, min, true, List, [], ◌∷◌, ◌++◌, length, take, drop, drop-cons, map, get_or, refl, sym, ap, ap₂, ◌∙◌, arith, ⊎_elim, ◌⊎◌, inl, inr, length-drop}
use Rattle.std.specs.Prelude.{ℤ, pos, negsuc, ◌+ℤ◌, ◌-ℤ◌, ◌≤ℤ◌}
use Rattle.std.specs.Int.{int_max}
use Rattle.std.proofs.lemmas.Bool.{cases_lt, and_parts}
use Rattle.std.proofs.lemmas.List.Folds.{list_all_at}
use Rattle.std.proofs.lemmas.List.{take_min, drop_all}
use Rattle.std.proofs.lemmas.Int.{ints, by_lt_z}
use Rattle.scm_cells.specs.Rect.{or_zero}
use Rattle.scm_cells.specs.Cluster.{is_printable, bytes_as_clusters}
use Rattle.scm_cells.specs.Cell.{Cell, byte_cell}
use Rattle.scm_cells.specs.Row.{cells_of, later_cells, written, overlay, put}
use Rattle.scm_cells.specs.Laying.{fit}
use Rattle.scm_cells.proofs.MapFrom.{map_from}
use Rattle.scm_cells.proofs.RectLemmas.{places}
use Rattle.scm_cells.proofs.RowLemmas.{overlay-none}
use Rattle.scm_cells.proofs.WrittenLemmas.{by_stop, AllKept-bytes, written-none, written-skipped, written-closed, written-fit, fit-cons, fit-stop, fit-none}
use Rattle.scm_cells.proofs.PrintableLemmas.{is_printable_char, clusters-printable}

-- ---- what the loop over columns writes

abbrev pub byte_written : List ℕ → ℕ → Cell → Cell
byte_written bytes i c = byte_cell (get_or bytes i 0)

written-after : (bytes : List ℕ) (i : ℕ) (xs : List Cell) → i + length xs ≡ length bytes → map_from (byte_written bytes) i xs ≡ map byte_cell (drop i bytes)
written-after bytes i [] e = sym (ap (map byte_cell) (drop_all i bytes (omega (arith, e))))
written-after bytes i (x ∷ xs) e =
    ap (λ t. byte_cell (get_or bytes i 0) ∷ t) (written-after bytes (suc i) xs (omega (arith, e)))
    ∙ sym (ap (map byte_cell) (drop-cons bytes i 0 (omega (arith, e))))

pub all-written : (bytes : List ℕ) (xs : List Cell) → length xs ≡ length bytes → map_from (byte_written bytes) 0 xs ≡ map byte_cell bytes
all-written bytes xs e = written-after bytes 0 xs (omega (arith, e))

pub printable-at : (bytes : List ℕ) (i : ℕ) → is_printable bytes ≡ true → i < length bytes → is_printable_char (get_or bytes i 0) ≡ true
printable-at bytes i h l = by_stop (is_printable_char (get_or bytes i 0)) refl (λ e. e) (λ e. let none = list_all_at is_printable_char bytes i 0 l e in absurd (cc))

printable-drop : (k : ℕ) (bs : List ℕ) → is_printable bs ≡ true → is_printable (drop k bs) ≡ true
printable-drop zero bs h = h
printable-drop (suc k) [] h = refl
printable-drop (suc k) (b ∷ bs) h = printable-drop k bs (and_parts (is_printable_char b) (is_printable bs) h).1

printable-take : (k : ℕ) (bs : List ℕ) → is_printable bs ≡ true → is_printable (take k bs) ≡ true
printable-take zero bs h = refl
printable-take (suc k) [] h = refl
printable-take (suc k) (b ∷ bs) h =
    let parts = and_parts (is_printable_char b) (is_printable bs) h in
    rw parts.0 (printable-take k bs parts.1)

pub printable-part : (n k : ℕ) (bs : List ℕ) → is_printable bs ≡ true → is_printable (take n (drop k bs)) ≡ true
printable-part n k bs h = printable-take n (drop k bs) (printable-drop k bs h)

-- ---- bytes as clusters

cells-byte : (b : ℕ) → cells_of (b ∷ [], 1) ≡ byte_cell b ∷ []
unfolding cells_of later_cells
cells-byte b = refl

fit-bytes : (bs : List ℕ) (room : ℕ) → fit room (bytes_as_clusters bs) ≡ map byte_cell (take room bs)
unfolding bytes_as_clusters
fit-bytes [] zero = fit-none zero
fit-bytes [] (suc n) = fit-none (suc n)
fit-bytes (b ∷ bs) zero = fit-stop zero (b ∷ [], 1) (bytes_as_clusters bs) (omega arith)
fit-bytes (b ∷ bs) (suc n) =
    let less : suc n - 1 ≡ n = omega arith in
    fit-cons (suc n) (b ∷ [], 1) (bytes_as_clusters bs) (omega arith) ∙ ap₂ (λ a r. a ++ r) (cells-byte b) (ap (λ k. fit k (bytes_as_clusters bs)) less ∙ fit-bytes bs n)

-- the bytes that are shown between the limits
abbrev pub bytes_between : ℤ → List ℕ → ℕ → ℕ → List ℕ
bytes_between column bs low high = take (high - or_zero (int_max column (pos low))) (drop (or_zero (pos low -ℤ column)) bs)

written-from_low : (bs : List ℕ) (column : ℤ) (low high : ℕ) → pos low ≤ℤ column → written column (bytes_as_clusters bs) low high ≡ map byte_cell (bytes_between column bs low high)
written-from_low bs (pos at) low high h =
    let from : or_zero (int_max (pos at) (pos low)) ≡ at = omega (arith, places) in
    let none : or_zero (pos low -ℤ pos at) ≡ 0 = omega (arith, places) in
    written-fit (bytes_as_clusters bs) at low high (AllKept-bytes bs) (omega (arith, places)) ∙ fit-bytes bs (high - at)
    ∙ sym (ap₂ (λ n k. map byte_cell (take (high - n) (drop k bs))) from none)
written-from_low bs (negsuc m) low high h = absurd (omega (arith, ints))

written-open : (bs : List ℕ) (column : ℤ) (low high : ℕ) → low < high → written column (bytes_as_clusters bs) low high ≡ map byte_cell (bytes_between column bs low high)
unfolding bytes_as_clusters
written-open [] column low high h = written-none column low high ∙ nothing (high - or_zero (int_max column (pos low))) (or_zero (pos low -ℤ column))
  where
    nothing : (n k : ℕ) → [] ≡ map byte_cell (take n (drop k []))
    nothing zero k = refl
    nothing (suc n) zero = refl
    nothing (suc n) (suc k) = refl
written-open (b ∷ bs) column low high h =
    by_lt_z column (pos low)
    (λ before.
    let from : or_zero (int_max (column +ℤ pos 1) (pos low)) ≡ or_zero (int_max column (pos low)) = omega (arith, places) in
    let skipped : suc (or_zero (pos low -ℤ (column +ℤ pos 1))) ≡ or_zero (pos low -ℤ column) = omega (arith, places) in
    written-skipped column (b ∷ [], 1) (bytes_as_clusters bs) low high h (omega (arith, places)) ∙ written-open bs (column +ℤ pos 1) low high h
    ∙ ap₂ (λ n k. map byte_cell (take (high - n) (drop k (b ∷ bs)))) from skipped)
    (λ begun. written-from_low (b ∷ bs) column low high begun)

pub written-bytes : (bs : List ℕ) (column : ℤ) (low high : ℕ) → written column (bytes_as_clusters bs) low high ≡ map byte_cell (bytes_between column bs low high)
written-bytes bs column low high =
    ⊎_elim (λ (some : low < high). written-open bs column low high some)
    (λ (none : high ≤ low).
    let room : 0 ≡ high - or_zero (int_max column (pos low)) = omega (arith, places) in
    written-closed (bytes_as_clusters bs) column low high none ∙ ap (λ n. map byte_cell (take n (drop (or_zero (pos low -ℤ column)) bs))) room)
    (cases_lt low high)

-- a put of a printable text writes its bytes between the limits
pub put-bytes : (row : List Cell) (column : ℤ) (text : List ℕ) (low high : ℕ) → is_printable text ≡ true
    → put row column text low high ≡ overlay row (or_zero (int_max column (pos low))) (map byte_cell (bytes_between column text low high))
unfolding put
put-bytes row column text low high h =
    ap (overlay row (or_zero (int_max column (pos low)))) (ap (λ cs. written column cs low high) (clusters-printable text h) ∙ written-bytes text column low high)

-- a put that shows none of the bytes
pub put-bytes_none : (row : List Cell) (column : ℤ) (text : List ℕ) (low high from skipped : ℕ) → is_printable text ≡ true → from ≡ or_zero (int_max column (pos low)) → skipped ≡ or_zero (pos low -ℤ column)
    → (high ≤ from) ⊎ (length text ≤ skipped) → row ≡ put row column text low high
put-bytes_none row column text low high from skipped h e f hidden =
    let none : bytes_between column text low high ≡ [] = shown_none hidden in
    sym (put-bytes row column text low high h ∙ ap (λ bs. overlay row (or_zero (int_max column (pos low))) (map byte_cell bs)) none ∙ overlay-none row (or_zero (int_max column (pos low))) [] refl)
  where
    take-nil : (n : ℕ) → ◌≡◌ {A = List ℕ} (take n []) []
    take-nil zero = refl
    take-nil (suc n) = refl

    shown_none : (high ≤ from) ⊎ (length text ≤ skipped) → bytes_between column text low high ≡ []
    shown_none (inl past) =
        let room : high - or_zero (int_max column (pos low)) ≡ 0 = omega (arith, e, past) in
        ap (λ n. take n (drop (or_zero (pos low -ℤ column)) text)) room
    shown_none (inr before) =
        let gone : drop (or_zero (pos low -ℤ column)) text ≡ [] = drop_all (or_zero (pos low -ℤ column)) text (omega (arith, f, before)) in
        ap (take (high - or_zero (int_max column (pos low)))) gone ∙ take-nil (high - or_zero (int_max column (pos low)))

-- and one that shows some
pub put-bytes_some : (row : List Cell) (column : ℤ) (text shown : List ℕ) (low high from skipped count : ℕ) → is_printable text ≡ true → from ≡ or_zero (int_max column (pos low)) → skipped ≡ or_zero (pos low -ℤ column)
    → count ≡ min (high - from) (length text - skipped) → shown ≡ take count (drop skipped text) → overlay row from (map byte_cell shown) ≡ put row column text low high
put-bytes_some row column text shown low high from skipped count h e f g s =
    let room : length (drop skipped text) ≡ length text - skipped = length-drop skipped text in
    let all : take count (drop skipped text) ≡ take (high - from) (drop skipped text) =
    ap (λ n. take n (drop skipped text)) (g ∙ ap (min (high - from)) (sym room)) ∙ take_min (high - from) (drop skipped text) in
    let bytes : shown ≡ bytes_between column text low high = s ∙ all ∙ ap₂ (λ n k. take (high - n) (drop k text)) e f in
    ap₂ (λ n bs. overlay row n (map byte_cell bs)) e bytes ∙ sym (put-bytes row column text low high h)
