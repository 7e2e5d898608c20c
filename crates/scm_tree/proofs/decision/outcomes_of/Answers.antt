use Rattle.std.proofs.Common.{◌+◌, ◌<◌, List, length, arith, sym, subst}
use Rattle.scm_tree.specs.declared.decision.Outcome.{Outcome}
use Rattle.scm_tree.specs.Decisions.{AreOutcomes}
use Rattle.scm_tree.proofs.DecisionLemmas.{all_outcomes, no_outcomes, outcomes_more}
use Rattle.scm_tree.proofs.decision.outcomes_of.Goals as goal

pub loop-i-init : goal.loop-i-init
loop-i-init c = subst (λ (os : List Outcome). AreOutcomes c.args.rows.now c.args.refused.now 0 os) (sym c.new-outcomes.ensures.items) (no_outcomes c.args.rows.now c.args.refused.now)

pub loop-i-preserved : goal.loop-i-preserved
loop-i-preserved c =
    subst (λ (os : List Outcome). AreOutcomes c.args.rows.now c.args.refused.now (c.loop-i.i + 1) os) (sym {A = List Outcome} c.in_ok-add.ensures)
    (outcomes_more c.args.rows.now c.args.refused.now c.loop-i.i c.loop-i.outcomes.items c.outcome_at.result c.loop-i.invariant c.outcome_at.ensures)

pub returns : goal.returns
returns c = all_outcomes c.args.rows.now c.args.refused.now c.loop-i.i _ c.loop-i.invariant (omega arith)
