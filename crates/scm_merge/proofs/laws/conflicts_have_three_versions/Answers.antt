use Rattle.scm_merge.proofs.LawLemmas.{three-versions}
use Rattle.scm_merge.proofs.laws.conflicts_have_three_versions.Goals as goal

pub returns : goal.returns
returns c = three-versions c.args.base.now c.args.ours.now c.args.theirs.now
