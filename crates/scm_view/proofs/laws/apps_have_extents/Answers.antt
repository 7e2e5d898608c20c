use Rattle.scm_view.proofs.WindowExtentLemmas.{has-extent}
use Rattle.scm_view.proofs.laws.apps_have_extents.Goals as goal

pub returns : goal.returns
returns c = has-extent
