use Rattle.std.proofs.Common.{◌≡◌, ◌++◌, take}
use Rattle.scm_tree.specs.Answers.{refusals_answer}
use Rattle.scm_tree.proofs.answer.add_refusals.Given as goal

abbrev pub invariant-loop-i : goal.invariant-loop-i
invariant-loop-i l = l.answer.items ≡ l.initial.answer.items ++ refusals_answer l.rows (take l.i l.refused)
