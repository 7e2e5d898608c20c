use Rattle.std.proofs.Common.{◌≡◌, take}
use Rattle.scm_tree.specs.Answers.{rows_answer}
use Rattle.scm_tree.proofs.answer.answer_of.Given as goal

abbrev pub invariant-loop-i : goal.invariant-loop-i
invariant-loop-i l = l.answer.items ≡ rows_answer l.count l.refused (take l.i l.rows)
