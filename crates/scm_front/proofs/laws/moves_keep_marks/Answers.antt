use Rattle.std.proofs.Common.{refl}
use Rattle.scm_front.proofs.UndoLemmas.{go-keeps}
use Rattle.scm_front.proofs.laws.moves_keep_marks.Goals as goal

pub returns : goal.returns
returns c = λ f g place calls does. go-keeps does place refl g refl
