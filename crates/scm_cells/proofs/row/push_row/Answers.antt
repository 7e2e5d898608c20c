use Rattle.std.proofs.Common.{◌≡◌, ◌∙◌, ◌<◌, ◌++◌, length, string_bytes, arith, ap, sym, append-nil}
use Rattle.std.proofs.lemmas.Bool.Decides.{nat_tests}
use Rattle.scm_cells.specs.Cell.{Cell}
use Rattle.scm_cells.proofs.RowLemmas.{row_text-none, row_text-made, symbols-more}
use Rattle.scm_cells.proofs.row.push_row.Goals as goal

pub returns-then-is_empty : goal.returns-then-is_empty
returns-then-is_empty c =
    let none : length c.args.columns.now ≡ 0 = grind (arith, nat_tests) in
    sym (append-nil _) ∙ ap (λ t. string_bytes c.args.text.now ++ t) (sym (row_text-none c.args.columns.now none))

pub loop-column-init : goal.loop-column-init
loop-column-init c = c.in_ok-push.ensures.bytes ∙ ap (λ t. string_bytes c.args.text.now ++ t) (c.push.ensures.ascii (omega arith))

pub loop-column-preserved : goal.loop-column-preserved
loop-column-preserved c =
    symbols-more _ _ c.args.columns.now c.loop-column.column-index c.column-item.result _ c.symbol.result.now (omega arith) c.loop-column.invariant (c.symbol.ensures ∙ ap (λ (p : Cell). p.symbol) c.column-item.is) c.in_ok-push_str.ensures.bytes

pub returns : goal.returns
returns c =
    let some : 0 < length c.args.columns.now = grind (arith, nat_tests) in
    row_text-made _ _ _ c.args.columns.now c.loop-column.column-index some (omega arith) c.loop-column.invariant c.in_ok-push_str-2.ensures.bytes
