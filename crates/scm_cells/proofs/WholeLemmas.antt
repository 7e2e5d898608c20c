-- A put leaves a row that was of whole symbols of whole symbols.
use Rattle.std.proofs.Common.{◌≡◌, ℕ, zero, suc, ◌+◌, ◌-◌, ◌<◌, ◌≤◌, Bool, true, false, List, [], ◌∷◌, ◌++◌, length, take, drop, replicate, append-nil, length-append, length-take-le, refl, sym, ap, ap₂, subst, ◌∙◌, arith, nat_le, ⊎_elim}
use Rattle.std.specs.Prelude.{ℤ, pos, ◌+ℤ◌, ◌-ℤ◌, int_le, int_lt, if◌then◌else◌}
use Rattle.std.specs.Int.{int_min, int_max}
use Rattle.std.specs.List.{All, flat_map}
use Rattle.std.specs.Str.{IsUtf8}
use Rattle.std.proofs.lemmas.Bool.{cases_lt}
use Rattle.std.proofs.lemmas.Bool.Decides.{nat_tests}
use Rattle.std.proofs.lemmas.List.{take-append-le, drop-append-le}
use Rattle.std.proofs.lemmas.List.Concat.{flat_map-append}
use Rattle.std.proofs.lemmas.List.Elements.{All-nil, All-cons, All-head, All-tail, All-append}
use Rattle.scm_cells.specs.Rect.{or_zero}
use Rattle.scm_cells.specs.Cluster.{Cluster}
use Rattle.scm_cells.specs.Clusters.{clusters, IsMeasured}
use Rattle.scm_cells.specs.Cell.{Cell, blank}
use Rattle.scm_cells.specs.Row.{IsWhole, cells_of, later_cells, whole_before, whole_after, written, passes, cells_past, overlay, put}
use Rattle.scm_cells.proofs.PrintableLemmas.{printable-kept}
use Rattle.scm_cells.proofs.PutLemmas.{length-later, length-cells}
use Rattle.scm_cells.proofs.SpaceLemmas.{space, cells-space}
use Rattle.scm_cells.proofs.WrittenLemmas.{AllKept, AllKept-clusters, AllMeasured-clusters, measured, utf8-ascii, by_stop, written-none, written-cons, written-stop}

abbrev pub HasColumn : Cluster → Type 0
HasColumn c = 0 < c.1

-- ---- rows of whole symbols

IsWhole-none : IsWhole []
IsWhole-none = record { symbols = []; wide = All-nil HasColumn; kept = All-nil IsMeasured; cells = refl }

IsWhole-one : (c : Cluster) → 0 < c.1 → IsMeasured c → IsWhole (cells_of c)
IsWhole-one c h m = record { symbols = c ∷ []; wide = All-cons HasColumn c [] h (All-nil HasColumn); kept = All-cons IsMeasured c [] m (All-nil IsMeasured); cells = sym (append-nil (cells_of c)) }

IsWhole-append : (xs ys : List Cell) → IsWhole xs → IsWhole ys → IsWhole (xs ++ ys)
IsWhole-append xs ys h g = record {
  symbols = h.symbols ++ g.symbols;
  wide = All-append HasColumn h.symbols g.symbols h.wide g.wide;
  kept = All-append IsMeasured h.symbols g.symbols h.kept g.kept;
  cells = ap₂ (λ a b. a ++ b) h.cells g.cells ∙ sym (flat_map-append cells_of h.symbols g.symbols);
}

IsWhole-symbols : (cs : List Cluster) → All HasColumn cs → All IsMeasured cs → IsWhole (flat_map cells_of cs)
IsWhole-symbols cs h m = record { symbols = cs; wide = h; kept = m; cells = refl }

IsWhole-blank : IsWhole (blank ∷ [])
IsWhole-blank = subst IsWhole cells-space (IsWhole-one space (omega arith) (measured space (printable-kept 32 refl) (utf8-ascii 32 (omega arith)) (λ h. refl)))

pub IsWhole-blanks : (n : ℕ) → IsWhole (replicate n blank)
IsWhole-blanks zero = IsWhole-none
IsWhole-blanks (suc n) = IsWhole-append (blank ∷ []) (replicate n blank) IsWhole-blank (IsWhole-blanks n)

IsWhole-if : (b : Bool) (xs ys : List Cell) → IsWhole xs → IsWhole ys → IsWhole (if b then xs else ys)
IsWhole-if true xs ys h g = h
IsWhole-if false xs ys h g = g

-- ---- a row's beginning

before-later : (w o k : ℕ) (ys : List Cell) → o + k ≡ w → whole_before (later_cells w o k ++ ys) ≡ later_cells w o k ++ whole_before ys
unfolding later_cells whole_before
before-later w o zero ys e = refl
before-later w o (suc k) ys e =
    let fits : nat_le (w - o) (length (later_cells w (o + 1) k ++ ys) + 1) ≡ true = grind (arith, nat_tests, length-append (later_cells w (o + 1) k) ys, length-later w (o + 1) k) in
    rw fits (ap (λ t. record { symbol = []; width = w; offset = o } ∷ t) (before-later w (o + 1) k ys (omega arith)))

pub before-cells : (c : Cluster) (ys : List Cell) → 0 < c.1 → whole_before (cells_of c ++ ys) ≡ cells_of c ++ whole_before ys
unfolding cells_of whole_before
before-cells c ys h =
    let fits : nat_le (c.1 - 0) (length (later_cells c.1 1 (c.1 - 1) ++ ys) + 1) ≡ true = grind (arith, nat_tests, length-append (later_cells c.1 1 (c.1 - 1)) ys, length-later c.1 1 (c.1 - 1)) in
    rw fits (ap (λ t. record { symbol = c.0; width = c.1; offset = 0 } ∷ t) (before-later c.1 1 (c.1 - 1) ys (omega arith)))

before-later_cut : (w o k n : ℕ) → o + k ≡ w → n < k → whole_before (take n (later_cells w o k)) ≡ replicate n blank
unfolding later_cells whole_before
before-later_cut w o zero n e h = absurd (omega arith)
before-later_cut w o (suc k) zero e h = refl
before-later_cut w o (suc k) (suc n) e h =
    let few = length-take-le n (later_cells w (o + 1) k) (omega (arith, length-later w (o + 1) k)) in
    let past : nat_le (w - o) (length (take n (later_cells w (o + 1) k)) + 1) ≡ false = grind (arith, nat_tests) in
    rw past (ap (λ t. blank ∷ t) (before-later_cut w (o + 1) k n (omega arith) (omega arith)))

before-cells_cut : (c : Cluster) (n : ℕ) → n < c.1 → whole_before (take n (cells_of c)) ≡ replicate n blank
unfolding cells_of whole_before
before-cells_cut c zero h = refl
before-cells_cut c (suc n) h =
    let few = length-take-le n (later_cells c.1 1 (c.1 - 1)) (omega (arith, length-later c.1 1 (c.1 - 1))) in
    let past : nat_le (c.1 - 0) (length (take n (later_cells c.1 1 (c.1 - 1))) + 1) ≡ false = grind (arith, nat_tests) in
    rw past (ap (λ t. blank ∷ t) (before-later_cut c.1 1 (c.1 - 1) n (omega arith) (omega arith)))

pub take-past : (n : ℕ) (xs ys : List Cell) → length xs ≤ n → take n (xs ++ ys) ≡ xs ++ take (n - length xs) ys
take-past n [] ys h = let e : n - 0 ≡ n = omega arith in rw e refl
take-past zero (x ∷ xs) ys h = absurd (omega arith)
take-past (suc n) (x ∷ xs) ys h = let e : suc n - suc (length xs) ≡ n - length xs = omega arith in rw e (ap (λ t. x ∷ t) (take-past n xs ys (omega arith)))

pub drop-past : (n : ℕ) (xs ys : List Cell) → length xs ≤ n → drop n (xs ++ ys) ≡ drop (n - length xs) ys
drop-past n [] ys h = let e : n - 0 ≡ n = omega arith in rw e refl
drop-past zero (x ∷ xs) ys h = absurd (omega arith)
drop-past (suc n) (x ∷ xs) ys h = let e : suc n - suc (length xs) ≡ n - length xs = omega arith in rw e (drop-past n xs ys (omega arith))

no_cells : (n : ℕ) → IsWhole (whole_before (take n []))
unfolding whole_before
no_cells zero = IsWhole-none
no_cells (suc n) = IsWhole-none

-- what is left of whole symbols before a column
IsWhole-before : (cs : List Cluster) → All HasColumn cs → All IsMeasured cs → (n : ℕ) → IsWhole (whole_before (take n (flat_map cells_of cs)))
IsWhole-before [] all kept n = no_cells n
IsWhole-before (c ∷ cs) all kept n =
    let some = All-head HasColumn c cs all in
    let more = flat_map cells_of cs in
    let size = length-cells c some in
    let rest = IsWhole-before cs (All-tail HasColumn c cs all) (All-tail IsMeasured c cs kept) (n - length (cells_of c)) in
    ⊎_elim
    (λ (cut : n < c.1).
    let e : whole_before (take n (cells_of c ++ more)) ≡ replicate n blank = ap whole_before (take-append-le n (cells_of c) more (omega arith)) ∙ before-cells_cut c n cut in
    subst IsWhole (sym e) (IsWhole-blanks n))
    (λ (whole : c.1 ≤ n).
    let e : whole_before (take n (cells_of c ++ more)) ≡ cells_of c ++ whole_before (take (n - length (cells_of c)) more) =
    ap whole_before (take-past n (cells_of c) more (omega arith)) ∙ before-cells c (take (n - length (cells_of c)) more) some in
    subst IsWhole (sym e) (IsWhole-append (cells_of c) (whole_before (take (n - length (cells_of c)) more)) (IsWhole-one c some (All-head IsMeasured c cs kept)) rest))
    (cases_lt n c.1)

-- ---- a row's end

after-later : (i w o k : ℕ) (ys : List Cell) → o ≤ i → whole_after i (later_cells w o k ++ ys) ≡ later_cells w o k ++ whole_after (i + k) ys
unfolding later_cells whole_after
after-later i w o zero ys h = let e : i + 0 ≡ i = omega arith in rw e refl
after-later i w o (suc k) ys h =
    let kept : nat_le o i ≡ true = grind (arith, nat_tests) in
    let e : i + suc k ≡ (i + 1) + k = omega arith in
    rw (kept, e) (ap (λ t. record { symbol = []; width = w; offset = o } ∷ t) (after-later (i + 1) w (o + 1) k ys (omega arith)))

after-cells : (i : ℕ) (c : Cluster) (ys : List Cell) → 0 < c.1 → whole_after i (cells_of c ++ ys) ≡ cells_of c ++ whole_after (i + c.1) ys
unfolding cells_of whole_after
after-cells i c ys h =
    let kept : nat_le 0 i ≡ true = grind (arith, nat_tests) in
    let e : i + c.1 ≡ (i + 1) + (c.1 - 1) = omega arith in
    rw (kept, e) (ap (λ t. record { symbol = c.0; width = c.1; offset = 0 } ∷ t) (after-later (i + 1) c.1 1 (c.1 - 1) ys (omega arith)))

after-none : (i : ℕ) → whole_after i [] ≡ []
unfolding whole_after
after-none i = refl

pub after-all : (i : ℕ) (cs : List Cluster) → All HasColumn cs → whole_after i (flat_map cells_of cs) ≡ flat_map cells_of cs
after-all i [] all = after-none i
after-all i (c ∷ cs) all =
    after-cells i c (flat_map cells_of cs) (All-head HasColumn c cs all) ∙ ap (λ t. cells_of c ++ t) (after-all (i + c.1) cs (All-tail HasColumn c cs all))

after-later_cut : (i w o k : ℕ) (ys : List Cell) → i < o → whole_after i (later_cells w o k ++ ys) ≡ replicate k blank ++ whole_after (i + k) ys
unfolding later_cells whole_after
after-later_cut i w o zero ys h = let e : i + 0 ≡ i = omega arith in rw e refl
after-later_cut i w o (suc k) ys h =
    let cut : nat_le o i ≡ false = grind (arith, nat_tests) in
    let e : i + suc k ≡ (i + 1) + k = omega arith in
    rw (cut, e) (ap (λ t. blank ∷ t) (after-later_cut (i + 1) w (o + 1) k ys (omega arith)))

drop-later : (n w o k : ℕ) → n ≤ k → drop n (later_cells w o k) ≡ later_cells w (o + n) (k - n)
unfolding later_cells
drop-later zero w o k h = let e : o + 0 ≡ o = omega arith in let f : k - 0 ≡ k = omega arith in rw (e, f) refl
drop-later (suc n) w o zero h = absurd (omega arith)
drop-later (suc n) w o (suc k) h =
    let e : o + suc n ≡ (o + 1) + n = omega arith in
    let f : suc k - suc n ≡ k - n = omega arith in
    rw (e, f) (drop-later n w (o + 1) k (omega arith))

drop-cells : (n : ℕ) (c : Cluster) → 0 < n → n ≤ c.1 → drop n (cells_of c) ≡ later_cells c.1 n (c.1 - n)
unfolding cells_of
drop-cells zero c some h = absurd (omega arith)
drop-cells (suc n) c some h =
    let e : suc n ≡ 1 + n = omega arith in
    let f : c.1 - (1 + n) ≡ (c.1 - 1) - n = omega arith in
    rw (e, f) (drop-later n c.1 1 (c.1 - 1) (omega arith))

no_later_cells : (n : ℕ) → IsWhole (whole_after 0 (drop n []))
unfolding whole_after
no_later_cells zero = IsWhole-none
no_later_cells (suc n) = IsWhole-none

-- what is left of whole symbols from a column on
IsWhole-after : (cs : List Cluster) → All HasColumn cs → All IsMeasured cs → (n : ℕ) → IsWhole (whole_after 0 (drop n (flat_map cells_of cs)))
IsWhole-after [] all kept n = no_later_cells n
IsWhole-after (c ∷ cs) all kept zero = subst IsWhole (sym (after-all 0 (c ∷ cs) all)) (IsWhole-symbols (c ∷ cs) all kept)
IsWhole-after (c ∷ cs) all kept (suc n) =
    let some = All-head HasColumn c cs all in
    let others = All-tail HasColumn c cs all in
    let more = flat_map cells_of cs in
    let size = length-cells c some in
    let measures = All-tail IsMeasured c cs kept in
    let rest = IsWhole-after cs others measures (suc n - length (cells_of c)) in
    ⊎_elim
    (λ (cut : suc n < c.1).
    let left = c.1 - suc n in
    let e : whole_after 0 (drop (suc n) (cells_of c ++ more)) ≡ replicate left blank ++ more =
    ap (whole_after 0) (drop-append-le (suc n) (cells_of c) more (omega arith) ∙ ap (λ t. t ++ more) (drop-cells (suc n) c (omega arith) (omega arith)))
    ∙ after-later_cut 0 c.1 (suc n) left more (omega arith) ∙ ap (λ t. replicate left blank ++ t) (after-all (0 + left) cs others) in
    subst IsWhole (sym e) (IsWhole-append (replicate left blank) more (IsWhole-blanks left) (IsWhole-symbols cs others measures)))
    (λ (whole : c.1 ≤ suc n). subst IsWhole (sym (ap (whole_after 0) (drop-past (suc n) (cells_of c) more (omega arith)))) rest)
    (cases_lt (suc n) c.1)

-- ---- a text put on a row

IsWhole-written : (cs : List Cluster) (column : ℤ) (low high : ℕ) → AllKept cs → All IsMeasured cs → IsWhole (written column cs low high)
IsWhole-written [] column low high kept all = subst IsWhole (sym (written-none column low high)) IsWhole-none
IsWhole-written (c ∷ cs) column low high kept all =
    let rest = IsWhole-written cs (column +ℤ pos c.1) low high kept.1 (All-tail IsMeasured c cs all) in
    let first : IsWhole (cells_past low high (column, c)) =
    IsWhole-if (int_le (column +ℤ pos c.1) (pos low)) [] _ IsWhole-none
    (IsWhole-if (int_lt column (pos low)) (replicate (or_zero (int_min (pos high) (column +ℤ pos c.1) -ℤ pos low)) blank) (cells_of c) (IsWhole-blanks _) (IsWhole-one c kept.0.columns (All-head IsMeasured c cs all))) in
    by_stop (passes low high (column, c)) refl
    (λ stops. subst IsWhole (sym (written-stop column c cs low high stops)) IsWhole-none)
    (λ stays. subst IsWhole (sym (written-cons column c cs low high stays)) (IsWhole-append (cells_past low high (column, c)) (written (column +ℤ pos c.1) cs low high) first rest))

IsWhole-overlay : (row : List Cell) (from : ℕ) (cells : List Cell) → IsWhole row → IsWhole cells → IsWhole (overlay row from cells)
unfolding overlay
IsWhole-overlay row from [] h g = h
IsWhole-overlay row from (c ∷ cs) h g =
    let end = from + length (c ∷ cs) in
    IsWhole-append (whole_before (take from row)) ((c ∷ cs) ++ whole_after 0 (drop end row))
    (subst (λ r. IsWhole (whole_before (take from r))) (sym h.cells) (IsWhole-before h.symbols h.wide h.kept from))
    (IsWhole-append (c ∷ cs) (whole_after 0 (drop end row)) g (subst (λ r. IsWhole (whole_after 0 (drop end r))) (sym h.cells) (IsWhole-after h.symbols h.wide h.kept end)))

pub IsWhole-put : (row : List Cell) (column : ℤ) (text : List ℕ) (low high : ℕ) → IsUtf8 text → IsWhole row → IsWhole (put row column text low high)
unfolding put
IsWhole-put row column text low high u h =
    IsWhole-overlay row (or_zero (int_max column (pos low))) (written column (clusters text) low high) h (IsWhole-written (clusters text) column low high (AllKept-clusters text) (AllMeasured-clusters text u))
