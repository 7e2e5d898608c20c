use Rattle.scm_view_state.proofs.ViewRowLemmas.{file-counts}
use Rattle.scm_view_state.proofs.layout_laws.counts_are_of_views.Goals as goal

pub returns : goal.returns
returns c = λ s commit. file-counts s commit 0 s.state.files
