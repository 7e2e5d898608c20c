use Rattle.scm_screen.proofs.PaintedLemmas.{windows-painted}
use Rattle.scm_screen.proofs.laws.windows_are_painted.Goals as goal

pub returns : goal.returns
returns c = windows-painted
