use Rattle.scm_view.proofs.WindowLemmas.{shows-window}
use Rattle.scm_view.proofs.laws.apps_show_windows.Goals as goal

pub returns : goal.returns
returns c = shows-window
