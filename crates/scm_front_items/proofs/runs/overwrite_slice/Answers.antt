use Rattle.std.proofs.Common.{drop, sym, ◌∙◌}
use Rattle.scm_front_items.proofs.RunLemmas.{past-end}
use Rattle.scm_front_items.proofs.runs.overwrite_slice.Goals as goal

pub returns-then-place-old : goal.returns-then-place-old
returns-then-place-old c =
    sym (past-end c.loop-mark.place (drop c.loop-mark.mark-index c.args.marks.now) c.loop-mark.old c.if-place-old.true) ∙ c.loop-mark.invariant
