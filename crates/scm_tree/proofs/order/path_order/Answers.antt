use Rattle.std.proofs.Common.{sym, ◌∙◌}
use Rattle.scm_tree.proofs.PathLemmas.{before_one_way, before_total}
use Rattle.scm_tree.proofs.order.path_order.Goals as goal

pub returns-then-is_before-clause-greater : goal.returns-then-is_before-clause-greater
returns-then-is_before-clause-greater c =
    sym (before_one_way c.args.path.now c.args.other.now (sym c.is_before.ensures ∙ c.if-is_before.true))

pub returns-else-is_before-2-clause-equal : goal.returns-else-is_before-2-clause-equal
returns-else-is_before-2-clause-equal c =
    λ e. before_total c.args.path.now c.args.other.now (sym c.is_before.ensures ∙ c.if-is_before.false)
    (sym c.is_before-else-is_before.ensures ∙ c.if-is_before-2.false)
