-- A header that is pinned hides the row below it, if it takes all columns.
use Rattle.std.proofs.Common.{◌≡◌, ℕ, ◌+◌, ◌-◌, ◌≤◌, List, [], ◌∷◌, ◌++◌, length, length-append, append-nil, take, drop, replicate, sym, ap, ◌∙◌, arith}
use Rattle.std.specs.Prelude.{ℤ, pos, ◌-ℤ◌, sum_by}
use Rattle.std.specs.Int.{int_max}
use Rattle.std.proofs.lemmas.Int.{ints}
use Rattle.std.proofs.lemmas.List.{drop_all, length-replicate, length-take}
use Rattle.std.proofs.lemmas.List.Sums.{sum_by-cons}
use Rattle.std.proofs.Math.Seq.{drop-append_seam}
use Rattle.scm_cells.specs.Cell.{Cell, blank}
use Rattle.scm_cells.specs.Cluster.{Cluster}
use Rattle.scm_cells.specs.Clusters.{clusters, text_width}
use Rattle.scm_cells.specs.Laying.{fit}
use Rattle.scm_cells.specs.Rect.{or_zero}
use Rattle.scm_cells.specs.Row.{cells_of, overlay, put, whole_after, whole_before, written}
use Rattle.scm_cells.proofs.PutLemmas.{length-before, length-cells}
use Rattle.scm_cells.proofs.RectLemmas.{places}
use Rattle.scm_cells.proofs.SpaceLemmas.{put-spaces}
use Rattle.scm_cells.proofs.WrittenLemmas.{AllKept, AllKept-clusters, fit-cons, fit-none, written-fit}
use Rattle.scm_render.specs.Canvas.{Row}
use Rattle.scm_render.specs.Rows.{say_texts}
use Rattle.scm_document.specs.Rows.{Heading}
use Rattle.scm_strips.specs.Shows.{show_heading, whole}
use Rattle.scm_widgets.specs.Blanks.{blanked}
use Rattle.scm_widgets.specs.Boxes.{IdBox}
use Rattle.scm_widgets.specs.Texts.{box_text}
use Rattle.scm_widgets.proofs.BoxLemmas.{box-width}

-- ---- the cells of a box

-- clusters that have room are written in as many cells as they are wide
fit-long : (cs : List Cluster) (room : ℕ) → AllKept cs → sum_by (λ (c : Cluster). c.1) cs ≤ room → length (fit room cs) ≡ sum_by (λ (c : Cluster). c.1) cs
fit-long [] room kept h = ap (λ (xs : List Cell). length xs) (fit-none room)
fit-long (c ∷ cs) room kept h =
    let sum = sum_by-cons (λ (k : Cluster). k.1) c cs in
    let rest = fit-long cs (room - c.1) kept.1 (omega (arith, h, sum)) in
    let first = length-cells c kept.0.columns in
    ap (λ (xs : List Cell). length xs) (fit-cons room c cs (omega (arith, h, sum))) ∙ omega (arith, length-append (cells_of c) (fit (room - c.1) cs), first, rest, sum)

box-cells : (b : IdBox) (at high : ℕ) → at + 3 ≤ high → length (written (pos at) (clusters (box_text b)) 0 high) ≡ 3
unfolding text_width
box-cells b at high h =
    let wide = box-width b in
    ap (λ (xs : List Cell). length xs) (written-fit (clusters (box_text b)) at 0 high (AllKept-clusters (box_text b)) (omega arith))
    ∙ fit-long (clusters (box_text b)) (high - at) (AllKept-clusters (box_text b)) (omega (arith, h, wide)) ∙ wide

-- ---- cells over a row

-- cells at the end of a row are what is left of it there
end-left : (row cells : List Cell) (at : ℕ) → 1 ≤ length cells → at + length cells ≡ length row → drop at (overlay row at cells) ≡ cells
unfolding overlay whole_after
end-left row [] at some e = absurd (omega (arith, some))
end-left row (c ∷ cs) at some e =
    let none : drop (at + length (c ∷ cs)) row ≡ [] = drop_all (at + length (c ∷ cs)) row (omega (arith, e)) in
    let front : length (whole_before (take at row)) ≡ at = length-before (take at row) ∙ length-take at row ∙ omega (arith, e) in
    ap (λ (rest : List Cell). drop at (whole_before (take at row) ++ ((c ∷ cs) ++ whole_after 0 rest))) none
    ∙ ap (λ (end : List Cell). drop at (whole_before (take at row) ++ end)) (append-nil (c ∷ cs))
    ∙ ap (λ n. drop n (whole_before (take at row) ++ (c ∷ cs))) (sym front)
    ∙ drop-append_seam (whole_before (take at row)) (c ∷ cs)

-- cells from column 0 on leave what lies behind them
begin-same : (a b cells : List Cell) → 1 ≤ length cells → drop (length cells) a ≡ drop (length cells) b → overlay a 0 cells ≡ overlay b 0 cells
unfolding overlay whole_before
begin-same a b [] some e = absurd (omega (arith, some))
begin-same a b (c ∷ cs) some e =
    let here : 0 + length (c ∷ cs) ≡ length (c ∷ cs) = omega arith in
    ap (λ n. (c ∷ cs) ++ whole_after 0 (drop n a)) here
    ∙ ap (λ (rest : List Cell). (c ∷ cs) ++ whole_after 0 rest) e
    ∙ ap (λ n. (c ∷ cs) ++ whole_after 0 (drop n b)) (sym here)

-- ---- a heading

fold-left : (b : IdBox) (w at : ℕ) (row : Row) → length row ≡ w → at + 3 ≡ w → drop at (put row (pos w -ℤ pos 3) (box_text b) 0 w) ≡ written (pos at) (clusters (box_text b)) 0 w
unfolding put
fold-left b w at row long e =
    let column : (pos w -ℤ pos 3) ≡ pos at = omega (arith, ints, e) in
    let from : or_zero (int_max (pos at) (pos 0)) ≡ at = omega (arith, places) in
    let cells = box-cells b at w (omega (arith, e)) in
    ap (λ (x : ℤ). drop at (put row x (box_text b) 0 w)) column
    ∙ ap (λ n. drop at (overlay row n (written (pos at) (clusters (box_text b)) 0 w))) from
    ∙ end-left row (written (pos at) (clusters (box_text b)) 0 w) at (omega (arith, cells)) (omega (arith, cells, long, e))

blank-same : (a b : Row) (n : ℕ) → 1 ≤ n → drop n a ≡ drop n b → blanked 0 n a ≡ blanked 0 n b
blank-same a b n some e =
    let all : n - 0 ≡ n = omega arith in
    let long : length (replicate n blank) ≡ n = length-replicate n blank in
    rw all
    (put-spaces a 0 n 0 n (omega arith) (omega arith)
    ∙ begin-same a b (replicate n blank) (omega (arith, long, some)) (ap (λ k. drop k a) long ∙ e ∙ ap (λ k. drop k b) (sym long))
    ∙ sym (put-spaces b 0 n 0 n (omega arith) (omega arith)))

-- a heading from column 0 on shows the same over any row
pub heading-hides : (w : ℕ) (h : Heading) (a b : Row) → 4 ≤ w → length a ≡ w → length b ≡ w → show_heading (whole w) 0 h a ≡ show_heading (whole w) 0 h b
heading-hides w h a b wide p q =
    let at = w - 3 in
    let here : at + 3 ≡ w = omega (arith, wide) in
    let ends = fold-left h.fold w at a p here ∙ sym (fold-left h.fold w at b q here) in
    let end : 0 + w ≡ w = omega arith in
    let title : 0 + (w - 3) ≡ w - 3 = omega arith in
    rw (end, title)
    (ap (λ (row : Row). say_texts (put row (pos 0) (box_text h.toggle) 0 at) (pos 4) (h.title ∷ []) 0 at)
    (blank-same (put a (pos w -ℤ pos 3) (box_text h.fold) 0 w) (put b (pos w -ℤ pos 3) (box_text h.fold) 0 w) at (omega (arith, wide)) ends))
