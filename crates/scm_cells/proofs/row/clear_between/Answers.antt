use Rattle.std.proofs.Common.{◌≡◌, ◌∙◌, ◌-◌, ◌≤◌, arith, sym, ap, length, replicate}
use Rattle.std.proofs.lemmas.List.{length-replicate}
use Rattle.scm_cells.specs.Cell.{blank}
use Rattle.scm_cells.proofs.RowLemmas.{over-mended, overlay-none, length-between}
use Rattle.scm_cells.proofs.TailLemmas.{IsBlankFrom-spaces}
use borrow.Rule.Slice.PartMut.{put_mid}
use Rattle.scm_cells.proofs.row.clear_between.Goals as goal

pub returns-then-from-end-clause-row : goal.returns-then-from-end-clause-row
returns-then-from-end-clause-row c =
    let n = c.args.end - c.args.from in
    let within : c.args.end ≤ length c.mend_around.new.columns = omega (arith, c.mend_around.auto.columns, c.requires.end) in
    let cells = c.clear_row.ensures ∙ ap (λ k. replicate k blank) (length-between c.mend_around.new.columns c.args.from c.args.end within) in
    ap (put_mid c.args.from n c.mend_around.new.columns) cells
    ∙ over-mended c.args.columns.now c.mend_around.new.columns (replicate n blank) c.args.from c.args.end c.if-from-end.true (length-replicate n blank)
    c.mend_around.ensures.front c.mend_around.ensures.back

pub returns-then-from-end-clause-tail : goal.returns-then-from-end-clause-tail
returns-then-from-end-clause-tail c = λ n blank_from. IsBlankFrom-spaces c.args.columns.now _ c.args.from (c.args.end - c.args.from) n (returns-then-from-end-clause-row c) blank_from

pub returns-else-from-end-clause-row : goal.returns-else-from-end-clause-row
returns-else-from-end-clause-row c =
    let none : c.args.end - c.args.from ≡ 0 = omega arith in
    sym (overlay-none _ _ _ (length-replicate (c.args.end - c.args.from) blank ∙ none))
