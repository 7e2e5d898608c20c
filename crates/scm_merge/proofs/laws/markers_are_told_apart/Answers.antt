use Rattle.scm_merge.proofs.MarkerLemmas.{told-apart}
use Rattle.scm_merge.proofs.laws.markers_are_told_apart.Goals as goal

pub returns : goal.returns
returns c = told-apart c.args.least c.args.file.now.sections
