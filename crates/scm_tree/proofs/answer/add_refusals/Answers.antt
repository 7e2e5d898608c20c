use Rattle.std.proofs.Common.{◌<◌, [], length, arith}
use Rattle.scm_tree.specs.Answers.{refusals_answer}
use Rattle.scm_tree.proofs.AnswerLemmas.{no_refusals, nothing_added, refusals_added, refusals_answered}
use Rattle.scm_tree.proofs.answer.add_refusals.Goals as goal

pub loop-i-init : goal.loop-i-init
loop-i-init c = nothing_added c.args.answer.now.items (refusals_answer c.args.rows.now []) (no_refusals c.args.rows.now)

pub loop-i-preserved : goal.loop-i-preserved
loop-i-preserved c =
    let h : c.loop-i.i < length c.args.refused.now = omega arith in
    refusals_added c.args.rows.now c.args.refused.now c.loop-i.i _ c.args.answer.now.items c.loop-i.answer.items c.add_refusal.new.answer.items h c.loop-i.invariant c.in_ok-add_refusal.ensures

pub returns : goal.returns
returns c = refusals_answered c.args.rows.now c.args.refused.now c.loop-i.i c.args.answer.now.items c.loop-i.answer.items c.loop-i-test.false c.loop-i.invariant
