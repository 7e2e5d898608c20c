use Rattle.scm_merge.proofs.LawLemmas.{trimmed}
use Rattle.scm_merge.proofs.laws.conflicts_are_trimmed.Goals as goal

pub returns : goal.returns
returns c = trimmed c.args.base.now c.args.ours.now c.args.theirs.now
