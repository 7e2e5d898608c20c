use Rattle.std.proofs.Common.{refl, sym, ◌∙◌}
use Rattle.scm_c_values.specs.Codes.{IsCode}
use Rattle.scm_c_values.specs.Texts.{is_short_change, seen_change}
use Rattle.scm_c_values.proofs.CodeLemmas.{length_code, long_change}
use Rattle.scm_c_values.proofs.texts.add_change.Goals as goal

pub returns-then-not-is_short-clause-code : goal.returns-then-not-is_short-clause-code
returns-then-not-is_short-clause-code c = long_change (is_short_change (seen_change c.args.change)) (sym c.is_short.ensures ∙ c.if-not-is_short.true)

pub returns-in_default-clause-code : goal.returns-in_default-clause-code
returns-in_default-clause-code c = IsCode.no_memory refl

pub returns-in-Ok-push_file-clause-code : goal.returns-in-Ok-push_file-clause-code
returns-in-Ok-push_file-clause-code c = length_code (is_short_change (seen_change c.args.change)) (sym c.is_short.ensures ∙ c.if-not-is_short.false)

pub returns-in-Err-clause-code : goal.returns-in-Err-clause-code
returns-in-Err-clause-code c = IsCode.no_memory refl
