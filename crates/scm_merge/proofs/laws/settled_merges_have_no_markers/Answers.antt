use Rattle.scm_merge.proofs.MarkerLemmas.{settled-bytes}
use Rattle.scm_merge.proofs.laws.settled_merges_have_no_markers.Goals as goal

pub returns : goal.returns
returns c = settled-bytes c.args.file.now c.args.labels c.args.least c.requires
