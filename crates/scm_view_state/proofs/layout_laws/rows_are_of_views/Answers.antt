use Rattle.scm_view_state.proofs.ViewRowLemmas.{rows-of-views}
use Rattle.scm_view_state.proofs.layout_laws.rows_are_of_views.Goals as goal

pub returns : goal.returns
returns c = rows-of-views
