use Rattle.scm_layout.proofs.LayoutLemmas.{ready-rows, top-fits}
use Rattle.scm_layout.proofs.state_layout.Layout.refold_all.Goals as goal

pub refold_all-requires-clause-top : goal.refold_all-requires-clause-top
refold_all-requires-clause-top c = rw c.files_top-top.ensures (top-fits _)

pub refold_all-requires-clause-rows : goal.refold_all-requires-clause-rows
refold_all-requires-clause-rows c = rw c.as_slice-2.ensures (ready-rows c.args.self.now c.args.state.now c.requires.layout.expanded c.requires.layout.is_it c.requires.size)
