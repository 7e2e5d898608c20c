use Rattle.std.proofs.Common.{List, ℕ, refl, subst, sym}
use Rattle.scm_c_values.specs.Codes.{IsCode}
use Rattle.scm_tree.specs.Answers.{IsAnswer}
use Rattle.scm_c.proofs.tree_calls.gabro_decide_rows.Goals as goal

pub returns-in_default-clause-code : goal.returns-in_default-clause-code
returns-in_default-clause-code c = IsCode.no_memory refl

pub returns-clause-code : goal.returns-clause-code
returns-clause-code c = IsCode.known

pub returns-clause-answer : goal.returns-clause-answer
returns-clause-answer c = λ _. record {
  answer = c.as_slice.result.now;
  is = subst (λ (bytes : List ℕ). IsAnswer c.args.rows.now bytes) (sym c.as_slice.ensures.value) c.in-Ok.ensures;
  long = c.write_text.ensures.len;
  written = c.write_text.ensures.written;
}
