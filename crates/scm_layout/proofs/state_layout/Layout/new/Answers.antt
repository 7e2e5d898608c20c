use Rattle.scm_layout.proofs.LayoutLemmas.{top-fits}
use Rattle.scm_layout.proofs.state_layout.Layout.new.Goals as goal

pub new-requires-2-clause-top : goal.new-requires-2-clause-top
new-requires-2-clause-top c = rw c.files_top-top.ensures (top-fits _)
