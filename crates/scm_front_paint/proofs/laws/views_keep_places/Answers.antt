use Rattle.scm_front_paint.proofs.AnyWidthLemmas.{keeps-both}
use Rattle.scm_front_paint.proofs.laws.views_keep_places.Goals as goal

pub returns : goal.returns
returns c = λ width height known new bytes p w. keeps-both width height known new bytes p w
