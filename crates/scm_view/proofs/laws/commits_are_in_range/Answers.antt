use Rattle.scm_view.proofs.LimitLemmas.{commits-in-range}
use Rattle.scm_view.proofs.laws.commits_are_in_range.Goals as goal

pub returns : goal.returns
returns c = commits-in-range
