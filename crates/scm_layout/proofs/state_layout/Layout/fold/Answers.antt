use Rattle.scm_layout.proofs.LayoutLemmas.{removed-but}
use Rattle.scm_layout.proofs.state_layout.Layout.fold.Goals as goal

pub refold_key-requires-clause-layout : goal.refold_key-requires-clause-layout
refold_key-requires-clause-layout c = removed-but _ _ _ _ _ _ c.requires.layout c.contains-was_unfolded.ensures c.remove.ensures
