use Rattle.scm_layout.proofs.LayoutLemmas.{flipped-but}
use Rattle.scm_layout.proofs.state_layout.Layout.flip.Goals as goal

pub refold_key-requires-clause-layout : goal.refold_key-requires-clause-layout
refold_key-requires-clause-layout c = flipped-but _ _ _ _ _ _ c.requires.layout c.contains-was_unfolded.ensures c.in_ok-flip.ensures.ok
