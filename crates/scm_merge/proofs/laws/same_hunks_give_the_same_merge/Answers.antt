use Rattle.scm_merge.proofs.ExchangeLemmas.{one-merge}
use Rattle.scm_merge.proofs.laws.same_hunks_give_the_same_merge.Goals as goal

pub returns : goal.returns
returns c = one-merge c.args.base.now c.args.ours.now c.args.theirs.now c.args.our_hunks.now c.args.their_hunks.now c.args.first.now c.args.second.now c.requires.first c.requires.second
