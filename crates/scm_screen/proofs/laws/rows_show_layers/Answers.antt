use Rattle.scm_screen.proofs.RowLawLemmas.{rows-show-layers}
use Rattle.scm_screen.proofs.laws.rows_show_layers.Goals as goal

pub returns : goal.returns
returns c = rows-show-layers
