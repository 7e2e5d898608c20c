use Rattle.scm_tree.proofs.DecisionLemmas.{promised}
use Rattle.scm_tree.proofs.decision.decision_is_as_promised.Goals as goal

pub returns : goal.returns
returns c = promised c.args.count c.args.old.now c.args.new.now c.args.marks.now c.args.moved.now c.args.decision.now
