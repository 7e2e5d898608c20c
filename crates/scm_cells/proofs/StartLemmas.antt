-- Where a symbol begins, a row of whole symbols is cut between two of them, so that both parts stay as they are.
use Rattle.std.proofs.Common.{◌≡◌, ℕ, zero, suc, ◌+◌, ◌-◌, ◌<◌, ◌≤◌, ◌==◌, Bool, true, false, List, [], ◌∷◌, ◌++◌, length, take, drop, refl, sym, ap, subst, ◌∙◌, arith, ⊎_elim}
use Rattle.std.specs.Prelude.{is_some}
use Rattle.std.specs.List.{All, flat_map}
use Rattle.std.proofs.lemmas.Bool.{cases_lt}
use Rattle.std.proofs.lemmas.Bool.Decides.{nat_tests}
use Rattle.std.proofs.lemmas.List.{drop-drop}
use Rattle.std.proofs.lemmas.List.Elements.{All-head, All-tail}
use Rattle.scm_cells.specs.Cluster.{Cluster}
use Rattle.scm_cells.specs.Cell.{Cell}
use Rattle.scm_cells.specs.Row.{IsWhole, cells_of, later_cells, whole_before, whole_after}
use Rattle.scm_cells.specs.Symbols.{symbol_in}
use Rattle.scm_cells.proofs.PutLemmas.{length-cells}
use Rattle.scm_cells.proofs.WholeLemmas.{HasColumn, before-cells, after-all, take-past, drop-past}

-- whether a symbol begins at a column
abbrev pub is_start : List Cell → ℕ → Bool
is_start row k = is_some (symbol_in row k)

start-later : (w o k n : ℕ) (ys : List Cell) → 0 < o → n < k → is_start (later_cells w o k ++ ys) n ≡ false
unfolding later_cells
start-later w o zero n ys h inside = absurd (omega arith)
start-later w o (suc k) zero ys h inside = let later : (o == 0) ≡ false = grind (arith, nat_tests) in rw later refl
start-later w o (suc k) (suc n) ys h inside = start-later w (o + 1) k n ys (omega arith) (omega arith)

start-inside : (c : Cluster) (n : ℕ) (ys : List Cell) → suc n < c.1 → is_start (cells_of c ++ ys) (suc n) ≡ false
unfolding cells_of
start-inside c n ys h = start-later c.1 1 (c.1 - 1) n ys (omega arith) (omega arith)

start-past : (xs ys : List Cell) (n : ℕ) → length xs ≤ n → is_start (xs ++ ys) n ≡ is_start ys (n - length xs)
start-past [] ys n h = let e : n - 0 ≡ n = omega arith in rw e refl
start-past (x ∷ xs) ys zero h = absurd (omega arith)
start-past (x ∷ xs) ys (suc n) h = let e : suc n - suc (length xs) ≡ n - length xs = omega arith in rw e (start-past xs ys n (omega arith))

no_cells_before : whole_before [] ≡ []
unfolding whole_before
no_cells_before = refl

before-start : (cs : List Cluster) → All HasColumn cs → (n : ℕ) → is_start (flat_map cells_of cs) n ≡ true → whole_before (take n (flat_map cells_of cs)) ≡ take n (flat_map cells_of cs)
before-start [] all n start = absurd (cc start)
before-start (c ∷ cs) all zero start = no_cells_before
before-start (c ∷ cs) all (suc n) start =
    let some = All-head HasColumn c cs all in
    let more = flat_map cells_of cs in
    let size = length-cells c some in
    let others = before-start cs (All-tail HasColumn c cs all) (suc n - length (cells_of c)) in
    ⊎_elim
    (λ (cut : suc n < c.1). let not_here = start-inside c n more cut in absurd (cc (start, not_here)))
    (λ (whole : c.1 ≤ suc n).
    let past : length (cells_of c) ≤ suc n = omega arith in
    let front = take-past (suc n) (cells_of c) more past in
    ap whole_before front ∙ before-cells c (take (suc n - length (cells_of c)) more) some
    ∙ ap (λ t. cells_of c ++ t) (others (sym (start-past (cells_of c) more (suc n) past) ∙ start)) ∙ sym front)
    (cases_lt (suc n) c.1)

after-start : (cs : List Cluster) → All HasColumn cs → (n : ℕ) → is_start (flat_map cells_of cs) n ≡ true → whole_after 0 (drop n (flat_map cells_of cs)) ≡ drop n (flat_map cells_of cs)
after-start [] all n start = absurd (cc start)
after-start (c ∷ cs) all zero start = after-all 0 (c ∷ cs) all
after-start (c ∷ cs) all (suc n) start =
    let some = All-head HasColumn c cs all in
    let more = flat_map cells_of cs in
    let size = length-cells c some in
    let others = after-start cs (All-tail HasColumn c cs all) (suc n - length (cells_of c)) in
    ⊎_elim
    (λ (cut : suc n < c.1). let not_here = start-inside c n more cut in absurd (cc (start, not_here)))
    (λ (whole : c.1 ≤ suc n).
    let past : length (cells_of c) ≤ suc n = omega arith in
    let back = drop-past (suc n) (cells_of c) more past in
    ap (whole_after 0) back ∙ others (sym (start-past (cells_of c) more (suc n) past) ∙ start) ∙ sym back)
    (cases_lt (suc n) c.1)

pub whole_before-start : (row : List Cell) (n : ℕ) → IsWhole row → is_start row n ≡ true → whole_before (take n row) ≡ take n row
whole_before-start row n h start =
    subst (λ (r : List Cell). whole_before (take n r) ≡ take n r) (sym h.cells) (before-start h.symbols h.wide n (ap (λ r. is_start r n) (sym h.cells) ∙ start))

pub whole_after-start : (row : List Cell) (n : ℕ) → IsWhole row → is_start row n ≡ true → whole_after 0 (drop n row) ≡ drop n row
whole_after-start row n h start =
    subst (λ (r : List Cell). whole_after 0 (drop n r) ≡ drop n r) (sym h.cells) (after-start h.symbols h.wide n (ap (λ r. is_start r n) (sym h.cells) ∙ start))

pub whole_back : (row back : List Cell) (from end : ℕ) → IsWhole row → from ≤ end → back ≡ drop (end - from) (drop from row) → is_start row end ≡ true → whole_after 0 back ≡ back
whole_back row back from end h le e start =
    let there : from + (end - from) ≡ end = omega arith in
    let same : back ≡ drop end row = e ∙ drop-drop (end - from) from row ∙ ap (λ n. drop n row) there in
    ap (whole_after 0) same ∙ whole_after-start row end h start ∙ sym same

pub whole_front : (row front : List Cell) (n : ℕ) → IsWhole row → front ≡ take n row → is_start row n ≡ true → whole_before front ≡ front
whole_front row front n h e start = ap whole_before e ∙ whole_before-start row n h start ∙ sym e
