use Rattle.std.proofs.lemmas.Result.{IfOk-weaker}
use Rattle.scm_tree.proofs.AnswerLemmas.{decided_of, undecided_of}
use Rattle.scm_tree.proofs.answer.decide_asked.Goals as goal

pub returns-in-Ok : goal.returns-in-Ok
returns-in-Ok c =
    IfOk-weaker c.answer_of.result _ _
    (λ answer is. decided_of c.args.asked.now c.as_slice.result.now c.as_slice-2.result.now c.as_slice-3.result.now c.as_slice-4.result.now c.in-Ok.decision answer.items
    c.as_slice.ensures.value c.as_slice-2.ensures.value c.as_slice-3.ensures.value c.as_slice-4.ensures.value c.in-Ok.ensures is)
    c.answer_of.ensures

pub returns-in-Err : goal.returns-in-Err
returns-in-Err c =
    IfOk-weaker c.reason_of.result _ _
    (λ answer is. undecided_of c.args.asked.now c.as_slice.result.now c.as_slice-2.result.now c.as_slice-3.result.now c.as_slice-4.result.now c.as_slice-in-Err.result.now c.in-Err.error answer.items
    c.as_slice.ensures.value c.as_slice-2.ensures.value c.as_slice-3.ensures.value c.as_slice-4.ensures.value c.as_slice-in-Err.ensures.value c.in-Err.ensures is)
    c.reason_of.ensures
