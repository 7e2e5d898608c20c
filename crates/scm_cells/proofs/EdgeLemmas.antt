-- Texts at the high limit: what begins there writes nothing, so a text that is cut there writes what the whole one writes.
use Rattle.std.proofs.Common.{◌≡◌, ℕ, ◌-◌, ◌<◌, ◌≤◌, List, [], ◌∷◌, ◌++◌, refl, sym, ap, subst, ◌∙◌, arith, ⊎_elim}
use Rattle.std.specs.Prelude.{ℤ, pos, ◌+ℤ◌, ◌≤ℤ◌}
use Rattle.std.specs.Int.{int_max}
use Rattle.std.proofs.lemmas.Bool.{cases_lt}
use Rattle.std.proofs.lemmas.List.Sums.{sum_by-cons, sum_by-append}
use Rattle.scm_cells.specs.Rect.{or_zero}
use Rattle.scm_cells.specs.Cell.{Cell}
use Rattle.scm_cells.specs.Cluster.{Cluster}
use Rattle.scm_cells.specs.Clusters.{clusters, text_width}
use Rattle.scm_cells.specs.Laying.{columns_of}
use Rattle.scm_cells.specs.Row.{passes, cells_past, written, overlay, put}
use Rattle.scm_cells.proofs.RectLemmas.{places}
use Rattle.scm_cells.proofs.WrittenLemmas.{AllKept, AllKept-clusters, by_stop, written-none, written-cons, written-stop, written-fit, written-closed, fit-full, columns_of-text, put-none}

-- clusters from the high limit on write nothing
written-behind : (cs : List Cluster) (column : ℤ) (low high : ℕ) → AllKept cs → pos high ≤ℤ column → written column cs low high ≡ []
written-behind cs column low high kept h =
    ⊎_elim
    (λ (room : low < high).
    let at : pos (or_zero column) ≡ column = omega (arith, places) in
    let inside : low ≤ or_zero column = omega (arith, places) in
    let none : high - or_zero column ≡ 0 = omega (arith, places) in
    ap (λ z. written z cs low high) (sym at) ∙ written-fit cs (or_zero column) low high kept inside ∙ fit-full cs (high - or_zero column) kept none)
    (λ (closed : high ≤ low). written-closed cs column low high closed)
    (cases_lt low high)

-- clusters that reach the high limit write the same whatever follows
written-front : (cs more : List Cluster) (column : ℤ) (low high : ℕ) → AllKept more → pos high ≤ℤ (column +ℤ pos (columns_of cs)) → written column (cs ++ more) low high ≡ written column cs low high
written-front [] more column low high kept h =
    let behind : pos high ≤ℤ column = omega (arith, places, h) in
    written-behind more column low high kept behind ∙ sym (written-none column low high)
written-front (c ∷ cs) more column low high kept h =
    let sum = sum_by-cons (λ (k : Cluster). k.1) c cs in
    let reach : pos high ≤ℤ ((column +ℤ pos c.1) +ℤ pos (columns_of cs)) = omega (arith, places, h, sum) in
    by_stop (passes low high (column, c)) refl
    (λ stops. written-stop column c (cs ++ more) low high stops ∙ sym (written-stop column c cs low high stops))
    (λ stays.
    written-cons column c (cs ++ more) low high stays
    ∙ ap (λ t. cells_past low high (column, c) ++ t) (written-front cs more (column +ℤ pos c.1) low high kept reach)
    ∙ sym (written-cons column c cs low high stays))

AllKept-back : (cs more : List Cluster) → AllKept (cs ++ more) → AllKept more
AllKept-back [] more h = h
AllKept-back (c ∷ cs) more h = AllKept-back cs more h.1

-- a text from the high limit on leaves the row
pub put-behind : (row : List Cell) (column : ℤ) (text : List ℕ) (low high : ℕ) → pos high ≤ℤ column → put row column text low high ≡ row
put-behind row column text low high h = sym (put-none row column text low high (written-behind (clusters text) column low high (AllKept-clusters text) h))

-- a text whose first clusters, those of `front`, reach the high limit
pub put-front : (row : List Cell) (column : ℤ) (front text : List ℕ) (more : List Cluster) (low high : ℕ) → clusters text ≡ clusters front ++ more
    → pos high ≤ℤ (column +ℤ pos (text_width front)) → put row column text low high ≡ put row column front low high
unfolding put
put-front row column front text more low high e h =
    let kept : AllKept more = AllKept-back (clusters front) more (subst AllKept e (AllKept-clusters text)) in
    let width = columns_of-text front (clusters front) refl in
    let reach : pos high ≤ℤ (column +ℤ pos (columns_of (clusters front))) = omega (arith, places, h, width) in
    ap (overlay row (or_zero (int_max column (pos low)))) (ap (λ t. written column t low high) e ∙ written-front (clusters front) more column low high kept reach)

-- and which is no narrower than those
pub text_width-front : (front text : List ℕ) (more : List Cluster) → clusters text ≡ clusters front ++ more → text_width front ≤ text_width text
text_width-front front text more e =
    let sum = sum_by-append (λ (k : Cluster). k.1) (clusters front) more in
    omega (arith, sum, ap columns_of e, columns_of-text front (clusters front) refl, columns_of-text text (clusters text) refl)
