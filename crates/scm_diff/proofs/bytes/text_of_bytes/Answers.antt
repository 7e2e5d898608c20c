use Rattle.std.proofs.Common.{sym, ◌∙◌}
use Rattle.scm_diff.proofs.ByteLemmas.{plain-same}
use Rattle.scm_diff.proofs.bytes.text_of_bytes.Goals as goal

pub returns-in-Some : goal.returns-in-Some
returns-in-Some c = c.from.ensures ∙ c.in_ok-copy.ensures.ok ∙ c.in-Some.ensures.some.0 ∙ sym (plain-same c.args.bytes.now c.in-Some.ensures.some.1)
