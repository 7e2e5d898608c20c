use Rattle.std.proofs.Common.{◌≡◌, ◌∙◌, ◌-◌, length, take, drop, length-take, length-drop, arith, ap, sym, refl, rules, FitsSigned, w64}
use Rattle.std.proofs.lemmas.Int.{to_z-of_z}
use Rattle.unicode_segmentation.specs.Iter.{graphemes_left}
use Rattle.scm_cells.specs.Row.{written}
use Rattle.scm_cells.proofs.BoundLemmas.{text_width-utf8}
use Rattle.scm_cells.proofs.WrittenLemmas.{AllKept-visible, clusters-pieces, columns_of-pieces, put-none, put-some, written-closed, written-past}
use Rattle.scm_cells.proofs.row.put_row.Goals as goal

pub begin-start-requires-clause-few : goal.begin-start-requires-clause-few
begin-start-requires-clause-few c = omega (arith, columns_of-pieces _ _ c.graphemes-clusters.ensures.left, text_width-utf8 _ c.utf8.text)

pub lay-requires : goal.lay-requires
lay-requires c = omega (arith, columns_of-pieces _ _ c.graphemes-clusters.ensures.left, text_width-utf8 _ c.utf8.text, c.begin-start.ensures.taken)

pub overflow_add-result : goal.overflow_add-result
overflow_add-result c = omega (arith, columns_of-pieces _ _ c.graphemes-clusters.ensures.left, text_width-utf8 _ c.utf8.text, c.begin-start.ensures.taken, c.in_ok-outcome.ensures.taken)

pub returns-then-low-high-clause-taken : goal.returns-then-low-high-clause-taken
returns-then-low-high-clause-taken c = omega (arith, columns_of-pieces _ _ c.graphemes-clusters.ensures.left)

pub returns-then-start-high-clause-taken : goal.returns-then-start-high-clause-taken
returns-then-start-high-clause-taken c = omega (arith, columns_of-pieces _ _ c.graphemes-clusters.ensures.left, c.begin-start.ensures.taken)

pub returns-clause-taken : goal.returns-clause-taken
returns-clause-taken c = omega (arith, columns_of-pieces _ _ c.graphemes-clusters.ensures.left, c.begin-start.ensures.taken, c.in_ok-outcome.ensures.taken)

pub returns-then-low-high-clause-ok : goal.returns-then-low-high-clause-ok
returns-then-low-high-clause-ok c = put-none _ _ _ _ _ (written-closed _ _ _ _ (omega arith))

pub returns-then-start-high-clause-ok : goal.returns-then-start-high-clause-ok
returns-then-start-high-clause-ok c =
    let fits : FitsSigned w64 c.args.column = search rules in
    let begun = simp to_z-of_z at c.begin-start.ensures.begun in
    put-none _ c.args.column _ c.args.low c.args.high (ap (λ t. written c.args.column t c.args.low c.args.high) (sym (clusters-pieces _ _ c.graphemes-clusters.ensures.left))
    ∙ written-past c.args.column c.args.low c.args.high _ _ _ _ begun (AllKept-visible (graphemes_left c.begin-start.new.clusters)) (omega arith) (omega arith))

pub returns-clause-ok : goal.returns-clause-ok
returns-clause-ok c =
    let fits : FitsSigned w64 c.args.column = search rules in
    let begun = simp to_z-of_z at c.begin-start.ensures.begun in
    let from = simp to_z-of_z at c.begin-start.ensures.from in
    let start = c.begin-start.result.from in
    let size : length (take (c.args.high - start) (drop start c.args.laid.now)) ≡ c.args.high - start = simp (length-take, length-drop) (omega arith) in
    put-some c.args.columns.now c.show.new.columns c.args.laid.now _ c.lay.new.columns c.args.column c.args.text.now c.args.low c.args.high start c.begin-start.result.blanks c.in_ok-outcome.outcome.end
    _ _ from (clusters-pieces _ _ c.graphemes-clusters.ensures.left) begun (omega arith) (omega arith) (omega arith) refl
    (c.lay.auto.columns ∙ size) (rw size at c.in_ok-outcome.ensures.within) (rw size at c.in_ok-outcome.ensures.laid) c.show.ensures
