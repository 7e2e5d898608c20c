use Rattle.scm_front_paint.proofs.ViewLemmas.{seen-by}
use Rattle.scm_front_paint.proofs.view.view_of.Goals as goal

pub invariant_of-result : goal.invariant_of-result
invariant_of-result c = seen-by c.args.pane c.args.front c.in_ok-front.front c.in_ok-front.ensures.ok c.requires
