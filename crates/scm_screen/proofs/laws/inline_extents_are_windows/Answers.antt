use Rattle.scm_screen.proofs.InlineLemmas.{inline-extents}
use Rattle.scm_screen.proofs.laws.inline_extents_are_windows.Goals as goal

pub returns : goal.returns
returns c = inline-extents
