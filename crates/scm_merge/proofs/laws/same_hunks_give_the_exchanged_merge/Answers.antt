use Rattle.scm_merge.proofs.ExchangeLemmas.{exchanged-merge, exchanged-outcomes}
use Rattle.scm_merge.proofs.laws.same_hunks_give_the_exchanged_merge.Goals as goal

pub returns-clause-regions : goal.returns-clause-regions
returns-clause-regions c = exchanged-merge c.args.base.now c.args.ours.now c.args.theirs.now c.args.our_hunks.now c.args.their_hunks.now c.args.regions.now c.args.others.now c.requires.first c.requires.second

pub returns-clause-outcomes : goal.returns-clause-outcomes
returns-clause-outcomes c = exchanged-outcomes c.args.base.now c.args.ours.now c.args.theirs.now c.args.our_hunks.now c.args.their_hunks.now c.args.regions.now c.args.others.now c.requires.first c.requires.second
