use Rattle.std.proofs.Common.{List, sym, ap, ◌∙◌, subst}
use Rattle.std.specs.Prelude.{position}
use Rattle.scm_front_paint.specs.declared.labels.Label.{Label}
use Rattle.scm_front_paint.specs.Labels.{AreOrdered, is_of}
use Rattle.scm_front_paint.proofs.LabelOrderLemmas.{ordered-set}
use Rattle.scm_front_paint.proofs.labels.Labels.set.Goals as goal

pub invariant_of-self : goal.invariant_of-self
invariant_of-self c = λ is.
    subst AreOrdered (sym c.replace_at.ensures)
    (ordered-set c.self.inside.list c.in-Some.index c.args.label
    (c.in-Some.ensures ∙ ap (λ (labels : List Label). position (is_of c.args.label.file c.args.label.section) labels) (sym c.self.view_is)) (c.self.invariant is))
