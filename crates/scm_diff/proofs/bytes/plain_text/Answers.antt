use Rattle.std.proofs.Common.{ap, sym, ◌∙◌}
use Rattle.std.specs.List.{list_any}
use Rattle.std.specs.Str.{chars}
use Rattle.scm_diff.specs.Bytes.{is_reserved}
use Rattle.scm_diff.proofs.ByteLemmas.{is-plain, not-plain-utf8}
use Rattle.scm_diff.proofs.bytes.plain_text.Goals as goal

pub returns-else-has_reserved-clause-some : goal.returns-else-has_reserved-clause-some
returns-else-has_reserved-clause-some c =
    let same = c.in-Ok.ensures.cases.0 in
    (same, is-plain c.args.bytes.now c.in-Ok.ensures.cases.1 (ap (λ s. list_any is_reserved (chars s)) (sym same) ∙ sym c.has_reserved.ensures ∙ c.if-has_reserved.false))

pub returns-in-Err-clause-none : goal.returns-in-Err-clause-none
returns-in-Err-clause-none c = not-plain-utf8 c.args.bytes.now c.in-Err.ensures.cases.0
