use Rattle.std.proofs.Common.{List, sym, ap, ◌∙◌}
use Rattle.scm_front_paint.specs.declared.labels.Label.{Label}
use Rattle.scm_front_paint.specs.Labels.{text_of}
use Rattle.scm_front_paint.proofs.FoundLemmas.{text-first, text-second}
use Rattle.scm_front_paint.proofs.section_labels.SectionLabels.text_of.Goals as goal

pub returns-then-has : goal.returns-then-has
returns-then-has c =
    c.text_of.ensures
    ∙ text-first c.self.inside.own c.self.inside.named c.args.file c.args.section (sym c.has.ensures ∙ c.if-has.true)
    ∙ ap (λ (labels : List Label). text_of labels c.args.file c.args.section) c.self.view_is

pub returns-else-has : goal.returns-else-has
returns-else-has c =
    c.text_of-else-has.ensures
    ∙ text-second c.self.inside.own c.self.inside.named c.args.file c.args.section (sym c.has.ensures ∙ c.if-has.false)
    ∙ ap (λ (labels : List Label). text_of labels c.args.file c.args.section) c.self.view_is
