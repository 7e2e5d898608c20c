use Rattle.scm_merge.proofs.ExchangeLemmas.{conflicts-exchanged, merge-exchanged}
use Rattle.scm_merge.proofs.laws.exchanged_merges_are_merges.Goals as goal

pub returns-clause-merged : goal.returns-clause-merged
returns-clause-merged c = merge-exchanged c.args.base.now c.args.ours.now c.args.theirs.now c.args.regions.now c.requires

pub returns-clause-open : goal.returns-clause-open
returns-clause-open c = conflicts-exchanged c.args.base.now c.args.ours.now c.args.theirs.now c.args.regions.now
