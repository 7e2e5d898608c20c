use Rattle.std.proofs.Common.{sym, ◌∙◌}
use Rattle.scm_script.proofs.WordLemmas.{decimal_is}
use Rattle.scm_script.proofs.words.read_decimal.Goals as goal

pub returns-then-is_digits : goal.returns-then-is_digits
returns-then-is_digits c = c.ok.ensures.value ∙ decimal_is c.args.word.now c.parse.result c.parse.ensures.value.0 (sym c.is_digits.ensures ∙ c.if-is_digits.true)
