-- A row shows the same of a text and of its end, if both end at the same column.
use Rattle.std.proofs.Common.{◌≡◌, ℕ, ◌+◌, ◌-◌, ◌<◌, ◌≤◌, List, [], ◌∷◌, ◌++◌, refl, sym, ap, ap₂, ◌∙◌, ⊎_elim, arith}
use Rattle.std.specs.Prelude.{ℤ, pos, ◌+ℤ◌, ◌-ℤ◌, ◌≤ℤ◌}
use Rattle.std.specs.Int.{int_max}
use Rattle.std.proofs.lemmas.Bool.{cases_lt}
use Rattle.std.proofs.lemmas.List.Sums.{sum_by-cons, sum_by-append}
use Rattle.scm_cells.specs.Rect.{or_zero}
use Rattle.scm_cells.specs.Cell.{Cell}
use Rattle.scm_cells.specs.Cluster.{Cluster}
use Rattle.scm_cells.specs.Clusters.{clusters, text_width}
use Rattle.scm_cells.specs.Laying.{columns_of}
use Rattle.scm_cells.specs.Row.{written, overlay, put}
use Rattle.scm_cells.proofs.PutLemmas.{put-closed}
use Rattle.scm_cells.proofs.RectLemmas.{places}
use Rattle.scm_cells.proofs.WrittenLemmas.{written-skipped, columns_of-text}

-- clusters that end before column 0 write nothing
written-passed : (front cs : List Cluster) (column : ℤ) (high : ℕ) → 0 < high → (column +ℤ pos (columns_of front)) ≤ℤ pos 0
    → written column (front ++ cs) 0 high ≡ written (column +ℤ pos (columns_of front)) cs 0 high
written-passed [] cs column high some h =
    let same : column ≡ column +ℤ pos (columns_of []) = omega (arith, places) in
    ap (λ z. written z cs 0 high) same
written-passed (c ∷ front) cs column high some h =
    let sum = sum_by-cons (λ (k : Cluster). k.1) c front in
    let first : (column +ℤ pos c.1) ≤ℤ pos 0 = omega (arith, places, h, sum) in
    let rest : ((column +ℤ pos c.1) +ℤ pos (columns_of front)) ≤ℤ pos 0 = omega (arith, places, h, sum) in
    let same : (column +ℤ pos c.1) +ℤ pos (columns_of front) ≡ column +ℤ pos (columns_of (c ∷ front)) = omega (arith, places, sum) in
    written-skipped column c (front ++ cs) 0 high some first
    ∙ written-passed front cs (column +ℤ pos c.1) high some rest
    ∙ ap (λ z. written z cs 0 high) same

-- a text of which the first columns have no room before column `room`, and its end, if that is as wide as the room
pub put-end : (row : List Cell) (front end whole : List ℕ) (room : ℕ) → clusters whole ≡ clusters front ++ clusters end → room ≤ text_width end
    → put row (pos 0 -ℤ pos (text_width whole - room)) whole 0 room ≡ put row (pos 0 -ℤ pos (text_width end - room)) end 0 room
unfolding put
put-end row front end whole room are wide =
    ⊎_elim some_room
    (λ (none : room ≤ 0). put-closed row (pos 0 -ℤ pos (text_width whole - room)) whole 0 room none ∙ sym (put-closed row (pos 0 -ℤ pos (text_width end - room)) end 0 room none))
    (cases_lt 0 room)
  where
    some_room : 0 < room → put row (pos 0 -ℤ pos (text_width whole - room)) whole 0 room ≡ put row (pos 0 -ℤ pos (text_width end - room)) end 0 room
    some_room some =
        let all = columns_of-text whole (clusters whole) refl in
        let last = columns_of-text end (clusters end) refl in
        let sum : columns_of (clusters whole) ≡ columns_of (clusters front) + columns_of (clusters end) = ap columns_of are ∙ sum_by-append (λ (k : Cluster). k.1) (clusters front) (clusters end) in
        let at = pos 0 -ℤ pos (text_width whole - room) in
        let from = pos 0 -ℤ pos (text_width end - room) in
        let next : at +ℤ pos (columns_of (clusters front)) ≡ from = omega (arith, places, all, last, sum, wide) in
        let before : (at +ℤ pos (columns_of (clusters front))) ≤ℤ pos 0 = omega (arith, places, all, last, sum, wide) in
        let place : or_zero (int_max at (pos 0)) ≡ or_zero (int_max from (pos 0)) = omega (arith, places) in
        let cells : written at (clusters whole) 0 room ≡ written from (clusters end) 0 room =
        ap (λ t. written at t 0 room) are ∙ written-passed (clusters front) (clusters end) at room some before ∙ ap (λ z. written z (clusters end) 0 room) next in
        ap₂ (overlay row) place cells

-- the end of a text is no wider than the text
pub end-width : (front end whole : List ℕ) → clusters whole ≡ clusters front ++ clusters end → text_width end ≤ text_width whole
end-width front end whole are =
    let sum = ap columns_of are ∙ sum_by-append (λ (k : Cluster). k.1) (clusters front) (clusters end) in
    omega (arith, sum, columns_of-text whole (clusters whole) refl, columns_of-text end (clusters end) refl)
