use Rattle.scm_pager.proofs.PlaceLemmas.{line-found}
use Rattle.scm_pager.proofs.laws.pagers_find_lines.Goals as goal

pub returns : goal.returns
returns c = line-found
