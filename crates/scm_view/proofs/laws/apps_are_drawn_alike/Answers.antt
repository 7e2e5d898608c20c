use Rattle.scm_view.proofs.AlikeLemmas.{app-alike}
use Rattle.scm_view.proofs.laws.apps_are_drawn_alike.Goals as goal

pub returns : goal.returns
returns c = app-alike
