use Rattle.scm_cells.proofs.BeginningLemmas.{IsFirst-plain}
use Rattle.scm_cells.proofs.beginnings.first_of_line.Goals as goal

pub returns-in-Some : goal.returns-in-Some
returns-in-Some c = IsFirst-plain _ _ _ _ _ c.count_plain.ensures c.split_at.ensures.front c.in-Some.ensures
