use Rattle.std.proofs.Common.{ap, sym, ◌∙◌}
use Rattle.scm_pager.specs.Counts.{counted}
use Rattle.scm_pager.proofs.CountLemmas.{counted-side, no-side}
use Rattle.scm_pager.proofs.counts.line_count.Goals as goal

pub returns-else-is_replaced : goal.returns-else-is_replaced
returns-else-is_replaced c =
    c.counted.ensures ∙ ap (counted c.args.selected 0) c.as_slice.ensures
    ∙ counted-side c.args.selected c.args.file.now (sym c.is_replaced.ensures ∙ c.if-is_replaced.false)

pub returns-then-is_replaced : goal.returns-then-is_replaced
returns-then-is_replaced c = no-side c.args.selected c.args.file.now (sym c.is_replaced.ensures ∙ c.if-is_replaced.true)
