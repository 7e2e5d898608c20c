use Rattle.scm_view.proofs.AppRangeLemmas.{apps-in-range}
use Rattle.scm_view.proofs.laws.apps_are_in_range.Goals as goal

pub returns : goal.returns
returns c = apps-in-range
