use Rattle.std.proofs.Common.{◌<◌, length, arith, sym, ◌∙◌}
use Rattle.scm_tree.specs.declared.row.Row.{Row}
use Rattle.scm_tree.specs.Paths.{is_before}
use Rattle.scm_tree.proofs.ElementLemmas.{at_any}
use Rattle.scm_tree.proofs.FindLemmas.{lower, upper}
use Rattle.scm_tree.proofs.find.half_of.Goals as goal

pub returns-then-is_before-clause-within : goal.returns-then-is_before-clause-within
returns-then-is_before-clause-within c =
    let long = c.requires.within.long in
    let high = c.middle_of-middle.ensures.high in
    let h : c.middle_of-middle.result < length c.args.rows.now = omega arith in
    upper c.args.rows.now c.args.path.now c.args.span c.middle_of-middle.result c.requires.order c.requires.within high
    (at_any (λ (r : Row). is_before r.path.now c.args.path.now) c.args.rows.now c.middle_of-middle.result _ _ h (sym c.is_before.ensures ∙ c.if-is_before.true))

pub returns-else-is_before-clause-within : goal.returns-else-is_before-clause-within
returns-else-is_before-clause-within c =
    let long = c.requires.within.long in
    let high = c.middle_of-middle.ensures.high in
    let h : c.middle_of-middle.result < length c.args.rows.now = omega arith in
    lower c.args.rows.now c.args.path.now c.args.span c.middle_of-middle.result c.requires.order c.requires.within c.middle_of-middle.ensures.low high
    (at_any (λ (r : Row). is_before r.path.now c.args.path.now) c.args.rows.now c.middle_of-middle.result _ _ h (sym c.is_before.ensures ∙ c.if-is_before.false))
