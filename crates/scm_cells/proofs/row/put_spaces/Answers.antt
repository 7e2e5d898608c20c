use Rattle.std.proofs.Common.{◌∙◌, arith, rules, FitsSigned, w64}
use Rattle.std.proofs.lemmas.Int.{to_z-of_z}
use Rattle.scm_cells.proofs.SpaceLemmas.{spaces-from, spaces-count, put-spaces_clipped}
use Rattle.scm_cells.proofs.row.put_spaces.Goals as goal

pub returns-clause-row : goal.returns-clause-row
returns-clause-row c =
    let fits : FitsSigned w64 c.args.column = search rules in
    let start = simp to_z-of_z at c.gap-start.ensures in
    let hidden = simp to_z-of_z at c.gap.ensures in
    c.clear_between.ensures.row
    ∙ put-spaces_clipped _ c.args.column c.args.width c.args.low c.args.high _ _ (spaces-from c.args.column c.args.low _ _ start c.max.ensures)
    (spaces-count c.args.column c.args.width c.args.low c.args.high _ _ _ _ _ _ start hidden c.saturating_sub-visible.ensures c.saturating_add-end.ensures c.max.ensures c.min.ensures (omega (arith, c.ranges.high)))
