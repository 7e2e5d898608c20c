use Rattle.std.proofs.Common.{ap, sym, ◌∙◌}
use Rattle.scm_diff.specs.Bytes.{has_high}
use Rattle.scm_diff.proofs.ByteLemmas.{low-plain}
use Rattle.scm_diff.proofs.bytes.has_reserved.Goals as goal

pub returns-else-has_high : goal.returns-else-has_high
returns-else-has_high c = sym (low-plain c.args.text.now (ap has_high (sym c.as_bytes.ensures.value) ∙ sym c.has_high.ensures ∙ c.if-has_high.false))
