-- How many columns a row has after a put, and puts that leave it as it was.
use Rattle.std.proofs.Common.{◌≡◌, ℕ, zero, suc, ◌+◌, ◌-◌, ◌<◌, ◌≤◌, List, [], ◌∷◌, ◌++◌, length, take, drop, replicate, append-nil, length-append, length-take, length-drop, refl, sym, ap, ◌∙◌, arith, ◌⊎◌, inl, inr, ⊎_elim}
use Rattle.std.specs.Prelude.{ℤ, pos, negsuc, ◌+ℤ◌, ◌-ℤ◌, ◌≤ℤ◌, ◌<ℤ◌}
use Rattle.std.specs.Int.{int_min, int_max}
use Rattle.std.proofs.lemmas.Bool.{cases_lt}
use Rattle.std.proofs.lemmas.List.{length-replicate}
use Rattle.std.proofs.lemmas.Int.{ints, by_lt_z}
use Rattle.scm_cells.specs.Rect.{or_zero}
use Rattle.scm_cells.specs.Cluster.{Cluster, bytes_as_clusters}
use Rattle.scm_cells.specs.Clusters.{clusters}
use Rattle.scm_cells.specs.Cell.{Cell, blank}
use Rattle.scm_cells.specs.Row.{cells_of, later_cells, whole_before, whole_after, written, overlay, put}
use Rattle.scm_cells.specs.Laying.{fit}
use Rattle.scm_cells.proofs.RectLemmas.{places}
use Rattle.scm_cells.proofs.RowLemmas.{overlay-none}
use Rattle.scm_cells.proofs.PrintableLemmas.{clusters-printable}
use Rattle.scm_cells.proofs.WrittenLemmas.{AllKept, AllKept-clusters, written-none, written-skipped, written-crossing, written-fit, written-closed, fit-cons, fit-stop, fit-none}

-- ---- lengths

pub length-later : (w o n : ℕ) → length (later_cells w o n) ≡ n
unfolding later_cells
length-later w o zero = refl
length-later w o (suc n) = ap suc (length-later w (o + 1) n)

pub length-cells : (c : Cluster) → 0 < c.1 → length (cells_of c) ≡ c.1
unfolding cells_of
length-cells c h = let e = length-later c.1 1 (c.1 - 1) in omega (arith, e)

pub length-before : (cs : List Cell) → length (whole_before cs) ≡ length cs
unfolding whole_before
length-before [] = refl
length-before (c ∷ cs) = ap suc (length-before cs)

pub length-after : (i : ℕ) (cs : List Cell) → length (whole_after i cs) ≡ length cs
unfolding whole_after
length-after i [] = refl
length-after i (c ∷ cs) = ap suc (length-after (i + 1) cs)

pub length-fit : (room : ℕ) (cs : List Cluster) → AllKept cs → length (fit room cs) ≤ room
length-fit room [] kept = rw fit-none (omega arith)
length-fit room (c ∷ cs) kept =
    let some = kept.0.columns in
    ⊎_elim
    (λ (past : room < c.1). rw (fit-stop room c cs past) (omega arith))
    (λ (fits : c.1 ≤ room). rw (fit-cons room c cs fits) (let e = length-cells c some in let r = length-fit (room - c.1) cs kept.1 in omega (arith, length-append (cells_of c) (fit (room - c.1) cs), e, r)))
    (cases_lt room c.1)

-- what is written lies before the high limit
abbrev Fits : ℕ → ℕ → ℤ → List Cell → Type 0
Fits low high column cells = or_zero (int_max column (pos low)) + length cells ≤ high

or_zero-max : (column : ℤ) (low : ℕ) → (column ≤ℤ pos low) → or_zero (int_max column (pos low)) ≡ low
or_zero-max column low h = omega (arith, places)

fits-from : (cs : List Cluster) (at low high : ℕ) → AllKept cs → low ≤ at → at ≤ high → Fits low high (pos at) (written (pos at) cs low high)
fits-from cs at low high kept h g =
    let m : or_zero (int_max (pos at) (pos low)) ≡ at = omega (arith, places) in
    rw (written-fit cs at low high kept h, m) (let r = length-fit (high - at) cs kept in omega (arith, r))

past_end : (cs : List Cluster) (at low high : ℕ) → AllKept cs → low ≤ at → high ≤ at → written (pos at) cs low high ≡ []
past_end cs at low high kept h g =
    let none : high - at ≡ 0 = omega arith in
    written-fit cs at low high kept h ∙ nothing_fits (fit (high - at) cs) (let r = length-fit (high - at) cs kept in omega (arith, r))
  where
    nothing_fits : (xs : List Cell) → length xs ≤ 0 → xs ≡ []
    nothing_fits [] e = refl
    nothing_fits (x ∷ xs) e = absurd (omega (arith, e))

abbrev NoneOrFits : ℕ → ℕ → ℤ → List Cell → Type 0
NoneOrFits low high column cells = (cells ≡ []) ⊎ Fits low high column cells

begins_at : (column : ℤ) (low : ℕ) → (pos low ≤ℤ column) → (n : ℕ) × (column ≡ pos n) × (low ≤ n)
begins_at (pos n) low h = (n, refl, omega (arith, ints))
begins_at (negsuc n) low h = absurd (omega (arith, ints))

fits-some : (cs : List Cluster) (at low high : ℕ) → AllKept cs → low ≤ at → NoneOrFits low high (pos at) (written (pos at) cs low high)
fits-some cs at low high kept h =
    ⊎_elim (λ (past : high < at). inl (past_end cs at low high kept h (omega arith))) (λ (g : at ≤ high). inr (fits-from cs at low high kept h g)) (cases_lt high at)

crossed : (column : ℤ) (low high e n : ℕ) (rest : List Cell) → column <ℤ pos low → low < e → low < high → n ≡ or_zero (int_min (pos high) (pos e) -ℤ pos low)
    → NoneOrFits low high (pos e) rest → NoneOrFits low high column (replicate n blank ++ rest)
crossed column low high e n rest h past some q (inl none) =
    let m : or_zero (int_max column (pos low)) ≡ low = omega (arith, places) in
    inr (rw (m, none, append-nil (replicate n blank), length-replicate n blank, q) (omega (arith, places)))
crossed column low high e n rest h past some q (inr fits) =
    let m : or_zero (int_max column (pos low)) ≡ low = omega (arith, places) in
    inr (rw m (omega (arith, places, length-append (replicate n blank) rest, length-replicate n blank, q, fits)))

fits : (cs : List Cluster) (column : ℤ) (low high : ℕ) → AllKept cs → low < high → NoneOrFits low high column (written column cs low high)
fits [] column low high kept some = inl (written-none column low high)
fits (c ∷ cs) column low high kept some =
    by_lt_z column (pos low)
    (λ before. by_lt_z (pos low) (column +ℤ pos c.1)
    (λ past. let at = begins_at (column +ℤ pos c.1) low (omega (arith, places)) in
    let later : low < at.0 = omega (arith, places, at.1) in
    rw (written-crossing column c cs low high before past, at.1) (crossed column low high at.0 _ _ before later some refl (fits-some cs at.0 low high kept.1 at.2)))
    (λ ends. rw (written-skipped column c cs low high some ends) (moved (fits cs (column +ℤ pos c.1) low high kept.1 some) before ends)))
    (λ begun. let at = begins_at column low begun in rw at.1 (fits-some (c ∷ cs) at.0 low high kept at.2))
  where
    moved : NoneOrFits low high (column +ℤ pos c.1) (written (column +ℤ pos c.1) cs low high) → column <ℤ pos low → (column +ℤ pos c.1) ≤ℤ pos low → NoneOrFits low high column (written (column +ℤ pos c.1) cs low high)
    moved (inl none) h k = inl none
    moved (inr f) h k =
        let a : or_zero (int_max (column +ℤ pos c.1) (pos low)) ≡ low = or_zero-max (column +ℤ pos c.1) low k in
        let b : or_zero (int_max column (pos low)) ≡ low = omega (arith, places) in
        inr (omega (arith, a, b, f))

pub length-overlay : (row : List Cell) (from : ℕ) (cells : List Cell) → from + length cells ≤ length row → length (overlay row from cells) ≡ length row
unfolding overlay
length-overlay row from [] h = refl
length-overlay row from (c ∷ cs) h =
    omega (
      arith,
      length-append (whole_before (take from row)) ((c ∷ cs) ++ whole_after 0 (drop (from + length (c ∷ cs)) row)),
      length-append (c ∷ cs) (whole_after 0 (drop (from + length (c ∷ cs)) row)),
      length-before (take from row),
      length-take from row,
      length-after 0 (drop (from + length (c ∷ cs)) row),
      length-drop (from + length (c ∷ cs)) row,
    )

put-length : (row : List Cell) (column : ℤ) (text : List ℕ) (low high : ℕ) → high ≤ length row → NoneOrFits low high column (written column (clusters text) low high)
    → length (put row column text low high) ≡ length row
unfolding put
put-length row column text low high h (inl none) = rw none (ap length (overlay-none row (or_zero (int_max column (pos low))) [] refl))
put-length row column text low high h (inr f) = length-overlay row (or_zero (int_max column (pos low))) (written column (clusters text) low high) (omega (arith, f))

-- a put within the row leaves it as long as it was
pub length-put : (row : List Cell) (column : ℤ) (text : List ℕ) (low high : ℕ) → high ≤ length row → length (put row column text low high) ≡ length row
length-put row column text low high h =
    ⊎_elim
    (λ (some : low < high). put-length row column text low high h (fits (clusters text) column low high (AllKept-clusters text) some))
    (λ (none : high ≤ low). put-length row column text low high h (inl (written-closed (clusters text) column low high none)))
    (cases_lt low high)

-- a put writes cells before the high limit
pub record EndsBefore (row : List Cell) (high : ℕ) (new : List Cell) : Type 0 where
  pub from : ℕ
  pub cells : List Cell
  pub is : new ≡ overlay row from cells
  pub within : from + length cells ≤ high

tail-of : (row : List Cell) (column : ℤ) (text : List ℕ) (low high : ℕ) → NoneOrFits low high column (written column (clusters text) low high)
    → EndsBefore row high (put row column text low high)
unfolding put
tail-of row column text low high (inl none) = record {
  from = 0;
  cells = [];
  is = rw none (overlay-none row (or_zero (int_max column (pos low))) [] refl ∙ sym (overlay-none row 0 [] refl));
  within = omega arith;
}
tail-of row column text low high (inr f) = record {
  from = or_zero (int_max column (pos low));
  cells = written column (clusters text) low high;
  is = refl;
  within = f;
}

pub put-tail : (row : List Cell) (column : ℤ) (text : List ℕ) (low high : ℕ) → EndsBefore row high (put row column text low high)
put-tail row column text low high =
    ⊎_elim
    (λ (some : low < high). tail-of row column text low high (fits (clusters text) column low high (AllKept-clusters text) some))
    (λ (none : high ≤ low). tail-of row column text low high (inl (written-closed (clusters text) column low high none)))
    (cases_lt low high)

-- ---- puts that leave the row as it was

-- the empty text
pub put-empty : (row : List Cell) (column : ℤ) (low high : ℕ) → put row column [] low high ≡ row
unfolding put bytes_as_clusters
put-empty row column low high =
    let none : clusters [] ≡ [] = clusters-printable [] refl in
    rw (none, written-none column low high) (overlay-none row (or_zero (int_max column (pos low))) [] refl)

-- a text between limits that leave no column
pub put-closed : (row : List Cell) (column : ℤ) (text : List ℕ) (low high : ℕ) → high ≤ low → put row column text low high ≡ row
unfolding put
put-closed row column text low high h =
    rw (written-closed (clusters text) column low high h) (overlay-none row (or_zero (int_max column (pos low))) [] refl)
