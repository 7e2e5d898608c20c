use Rattle.scm_screen.proofs.RowLawLemmas.{rows-show-inline}
use Rattle.scm_screen.proofs.laws.rows_show_inline.Goals as goal

pub returns : goal.returns
returns c = rows-show-inline
