use Rattle.scm_pager.proofs.LawLemmas.{side-none, side-text}
use Rattle.scm_pager.proofs.laws.pagers_show_sides.Goals as goal

pub returns-clause-text : goal.returns-clause-text
returns-clause-text c selected file text e = side-text selected file text e

pub returns-clause-unchanged : goal.returns-clause-unchanged
returns-clause-unchanged c selected file e = side-none selected file e
