use Rattle.scm_tree.proofs.CheckLemmas.{ordered_done, ordered_next, ordered_none}
use Rattle.scm_tree.proofs.check.order_fault.Goals as goal

pub loop-i-init : goal.loop-i-init
loop-i-init c = ordered_none c.args.rows.now

pub loop-i-preserved : goal.loop-i-preserved
loop-i-preserved c = ordered_next c.args.rows.now c.loop-i.i c.loop-i.invariant (c.follows.ensures.follows c.if-not-follows.false)

pub returns-clause-none : goal.returns-clause-none
returns-clause-none c = λ e. ordered_done c.args.rows.now c.loop-i.i c.loop-i.invariant c.loop-i-test.false

pub returns-then-not-follows-clause-some : goal.returns-then-not-follows-clause-some
returns-then-not-follows-clause-some c = c.follows.ensures.falls c.if-not-follows.true
