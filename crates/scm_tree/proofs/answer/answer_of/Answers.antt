use Rattle.std.proofs.Common.{◌<◌, [], length, arith, sym, ◌∙◌}
use Rattle.scm_tree.proofs.AnswerLemmas.{answered, no_rows, rows_added}
use Rattle.scm_tree.proofs.answer.answer_of.Goals as goal

pub loop-i-init : goal.loop-i-init
loop-i-init c = c.new-answer.ensures.items ∙ sym (no_rows c.args.count c.as_slice-refused.result.now)

pub loop-i-preserved : goal.loop-i-preserved
loop-i-preserved c =
    let h : c.loop-i.i < length c.as_slice-rows.result.now = omega arith in
    rows_added c.args.count c.as_slice-refused.result.now c.as_slice-rows.result.now c.loop-i.i _ [] c.loop-i.answer.items c.add_row.new.answer.items h c.loop-i.invariant c.in_ok-add_row.ensures

pub returns : goal.returns
returns c =
    answered c.args.count c.args.decision.now c.as_slice-rows.result.now c.as_slice-refused.result.now c.loop-i.i c.loop-i.answer.items c.add_refusals.new.answer.items
    c.as_slice-rows.ensures.value c.as_slice-refused.ensures.value c.loop-i-test.false c.loop-i.invariant c.in_ok-add_refusals.ensures
