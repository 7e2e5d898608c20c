use Rattle.std.proofs.Common.{List, ℕ, ap, length, refl, ◌∙◌}
use Rattle.scm_c_values.specs.Buffers.{over}
use Rattle.scm_c_values.specs.Codes.{IsCode}
use Rattle.scm_c.proofs.blank_calls.gabro_without_blank_changes.Goals as goal

pub returns-in_default-clause-code : goal.returns-in_default-clause-code
returns-in_default-clause-code c = IsCode.no_memory refl

pub returns-clause-code : goal.returns-clause-code
returns-clause-code c = IsCode.known

pub returns-clause-bytes : goal.returns-clause-bytes
returns-clause-bytes c = λ _. record {
  found = c.in-Ok.found;
  are_without = c.in-Ok.ensures;
  long = c.write_text.ensures.len ∙ ap (λ (xs : List ℕ). length xs) c.as_slice.ensures.value;
  written = c.write_text.ensures.written ∙ ap (λ (xs : List ℕ). over xs c.args.out.now) c.as_slice.ensures.value;
  count = refl;
}
