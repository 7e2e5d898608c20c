use Rattle.scm_merge.proofs.MarkerLemmas.{conflicts-shown}
use Rattle.scm_merge.proofs.laws.markers_show_the_conflicts.Goals as goal

pub returns : goal.returns
returns c = conflicts-shown c.args.path.now c.args.mode c.args.base.now c.args.ours.now c.args.theirs.now c.args.file.now c.args.labels c.args.least c.requires
