use Rattle.std.proofs.Common.{sym, ◌∙◌}
use Rattle.scm_front_paint.proofs.LabelOrderLemmas.{ordered-push}
use Rattle.scm_front_paint.proofs.labels.is_behind.Goals as goal

pub returns-in-Some : goal.returns-in-Some
returns-in-Some c = λ is ordered.
    ordered-push c.args.labels.now c.in-Some.last.now c.args.label.now (sym c.in-Some.ensures.value) (sym c.is_before.ensures ∙ is) ordered
