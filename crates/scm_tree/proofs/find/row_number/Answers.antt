use Rattle.std.proofs.Common.{sym, ◌∙◌}
use Rattle.scm_tree.specs.declared.row.Row.{Row}
use Rattle.scm_tree.specs.Paths.{is_before}
use Rattle.scm_tree.proofs.ElementLemmas.{at_any}
use Rattle.scm_tree.proofs.FindLemmas.{found, none_past, none_there}
use Rattle.scm_tree.proofs.find.row_number.Goals as goal

pub returns-then-span-rows-clause-none : goal.returns-then-span-rows-clause-none
returns-then-span-rows-clause-none c = λ e. none_past c.args.rows.now c.args.path.now c.halves.span c.halves.invariant c.if-span-rows.true

pub returns-then-is_before-clause-none : goal.returns-then-is_before-clause-none
returns-then-is_before-clause-none c = λ e.
    none_there c.args.rows.now c.args.path.now c.halves.span c.requires c.halves.invariant c.if-span-rows.false
    (at_any (λ (r : Row). is_before c.args.path.now r.path.now) c.args.rows.now c.halves.span.low _ _ c.if-span-rows.false (sym c.is_before.ensures ∙ c.if-is_before.true))

pub returns-clause-some : goal.returns-clause-some
returns-clause-some c =
    found c.args.rows.now c.args.path.now c.halves.span c.halves.invariant c.halves-test.false c.if-span-rows.false
    (at_any (λ (r : Row). is_before c.args.path.now r.path.now) c.args.rows.now c.halves.span.low _ _ c.if-span-rows.false (sym c.is_before.ensures ∙ c.if-is_before.false))
