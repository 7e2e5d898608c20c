-- The end of a row that is blank, after puts and where the row is cleared.
use Rattle.std.proofs.Common.{◌≡◌, ℕ, zero, suc, ◌+◌, ◌-◌, ◌<◌, ◌≤◌, min, Bool, true, false, List, [], ◌∷◌, ◌++◌, length, take, drop, replicate, get_or, length-take, refl, sym, ap, ap₂, subst, ◌∙◌, arith, ⊎_elim}
use Rattle.std.specs.Prelude.{ℤ, nat_le, if◌then◌else◌}
use Rattle.std.proofs.lemmas.Bool.{cases_lt}
use Rattle.std.proofs.lemmas.List.{get_or-drop, get_or_past}
use Rattle.scm_cells.specs.Cell.{Cell, blank}
use Rattle.scm_cells.specs.Row.{whole_before, whole_after, overlay, put}
use Rattle.scm_cells.specs.Tail.{IsBlankFrom}
use Rattle.scm_cells.proofs.PutLemmas.{length-before, put-tail}

pub IsBlankFrom-later : (n m : ℕ) (row : List Cell) → n ≤ m → IsBlankFrom n row → IsBlankFrom m row
IsBlankFrom-later n m row h b = record { cells = λ i le. b.cells i (omega (arith, h, le)) }

pub IsBlankFrom-past : (n : ℕ) (row : List Cell) → length row ≤ n → IsBlankFrom n row
IsBlankFrom-past n row h = record { cells = λ i le. get_or_past row i blank (omega (arith, h, le)) }

pub IsBlankFrom-min : (n : ℕ) (row : List Cell) → IsBlankFrom n row → IsBlankFrom (min n (length row)) row
IsBlankFrom-min n row b = record {
  cells = λ i le.
      ⊎_elim (λ (before : i < n). get_or_past row i blank (omega (arith, before, le))) (λ (after : n ≤ i). b.cells i after) (cases_lt i n);
}

blanks : (k i : ℕ) → get_or (replicate k blank) i blank ≡ blank
blanks zero i = refl
blanks (suc k) zero = refl
blanks (suc k) (suc i) = blanks k i

pub IsBlankFrom-blanks : (n k : ℕ) → IsBlankFrom n (replicate k blank)
IsBlankFrom-blanks n k = record { cells = λ i le. blanks k i }

-- ---- parts of a row

in_front : (xs : List Cell) (k i : ℕ) → get_or xs i blank ≡ blank → get_or (take k xs) i blank ≡ blank
in_front xs zero i h = refl
in_front [] (suc k) i h = refl
in_front (x ∷ xs) (suc k) zero h = h
in_front (x ∷ xs) (suc k) (suc i) h = in_front xs k i h

kept_or_blank : (b : Bool) (c : Cell) → c ≡ blank → (if b then c else blank) ≡ blank
kept_or_blank true c h = h
kept_or_blank false c h = refl

before : (xs : List Cell) (i : ℕ) → get_or xs i blank ≡ blank → get_or (whole_before xs) i blank ≡ blank
unfolding whole_before
before [] i h = refl
before (x ∷ xs) zero h = kept_or_blank (nat_le (x.width - x.offset) (length xs + 1)) x h
before (x ∷ xs) (suc i) h = before xs i h

after : (k : ℕ) (xs : List Cell) (i : ℕ) → get_or xs i blank ≡ blank → get_or (whole_after k xs) i blank ≡ blank
unfolding whole_after
after k [] i h = refl
after k (x ∷ xs) zero h = kept_or_blank (nat_le x.offset k) x h
after k (x ∷ xs) (suc i) h = after (k + 1) xs i h

joined : (xs ys : List Cell) (n i : ℕ) → n ≤ i → IsBlankFrom n xs → IsBlankFrom (n - length xs) ys → get_or (xs ++ ys) i blank ≡ blank
joined [] ys n i le a b = b.cells i (omega (arith, le))
joined (x ∷ xs) ys n zero le a b = a.cells zero le
joined (x ∷ xs) ys n (suc i) le a b =
    joined xs ys (n - 1) i (omega (arith, le))
    (record { cells = λ j h. a.cells (suc j) (omega (arith, h)) })
    (IsBlankFrom-later (n - suc (length xs)) (n - 1 - length xs) ys (omega arith) b)

IsBlankFrom-append : (xs ys : List Cell) (n : ℕ) → IsBlankFrom n xs → IsBlankFrom (n - length xs) ys → IsBlankFrom n (xs ++ ys)
IsBlankFrom-append xs ys n a b = record { cells = λ i le. joined xs ys n i le a b }

-- ---- cells over a row

-- cells over the row from column `from` on, the last of which are blank too
pub IsBlankFrom-overlay : (row : List Cell) (from : ℕ) (cells : List Cell) (n : ℕ) → IsBlankFrom n row → IsBlankFrom (n - from) cells → IsBlankFrom n (overlay row from cells)
unfolding overlay
IsBlankFrom-overlay row from [] n h g = h
IsBlankFrom-overlay row from (c ∷ cs) n h g =
    let front = whole_before (take from row) in
    let end = from + length (c ∷ cs) in
    let size : length front ≤ from = omega (arith, length-before (take from row), length-take from row) in
    IsBlankFrom-append front ((c ∷ cs) ++ whole_after 0 (drop end row)) n
    (record { cells = λ i le. before (take from row) i (in_front row from i (h.cells i le)) })
    (IsBlankFrom-append (c ∷ cs) (whole_after 0 (drop end row)) (n - length front)
    (IsBlankFrom-later (n - from) (n - length front) (c ∷ cs) (omega (arith, size)) g)
    (record { cells = λ i le. after 0 (drop end row) i (get_or-drop end row i blank ∙ h.cells (end + i) (omega (arith, size, le))) }))

-- spaces over a row leave what is blank
pub IsBlankFrom-spaces : (row new : List Cell) (from k n : ℕ) → new ≡ overlay row from (replicate k blank) → IsBlankFrom n row → IsBlankFrom n new
IsBlankFrom-spaces row new from k n e h = subst (IsBlankFrom n) (sym e) (IsBlankFrom-overlay row from (replicate k blank) n h (IsBlankFrom-blanks (n - from) k))

-- and so do cells that end before
pub IsBlankFrom-before : (row new cells : List Cell) (from n : ℕ) → new ≡ overlay row from cells → from + length cells ≤ n → IsBlankFrom n row → IsBlankFrom n new
IsBlankFrom-before row new cells from n e le h =
    subst (IsBlankFrom n) (sym e) (IsBlankFrom-overlay row from cells n h (IsBlankFrom-past (n - from) cells (omega (arith, le))))

-- and a text that is put before column `n`
pub IsBlankFrom-put : (row new : List Cell) (column : ℤ) (text : List ℕ) (low high n : ℕ) → new ≡ put row column text low high → high ≤ n → IsBlankFrom n row → IsBlankFrom n new
IsBlankFrom-put row new column text low high n e le h =
    let over = put-tail row column text low high in
    subst (IsBlankFrom n) (sym (e ∙ over.is))
    (IsBlankFrom-overlay row over.from over.cells n h (IsBlankFrom-past (n - over.from) over.cells (omega (arith, le, over.within))))

-- ---- a row that is cleared as far as it is not blank

all_blank : (row : List Cell) → ((i : ℕ) → get_or row i blank ≡ blank) → row ≡ replicate (length row) blank
all_blank [] h = refl
all_blank (x ∷ xs) h = ap₂ (λ y ys. y ∷ ys) (h zero) (all_blank xs (λ i. h (suc i)))

pub cleared_front : (row : List Cell) (n : ℕ) → n ≤ length row → IsBlankFrom n row → replicate n blank ++ drop n row ≡ replicate (length row) blank
cleared_front row zero le h = all_blank row (λ i. h.cells i (omega arith))
cleared_front [] (suc n) le h = absurd (omega (arith, le))
cleared_front (x ∷ xs) (suc n) le h = ap (λ t. blank ∷ t) (cleared_front xs n (omega (arith, le)) (record { cells = λ i g. h.cells (suc i) (omega (arith, g)) }))
