use Rattle.std.proofs.Common.{List, get_or, ap, ◌∙◌}
use Rattle.scm_front_paint.specs.declared.labels.Label.{Label}
use Rattle.scm_front_paint.proofs.LabelOrderLemmas.{text-found, text-free}
use Rattle.scm_front_paint.proofs.labels.Labels.text_of.Goals as goal

pub returns-in-None : goal.returns-in-None
returns-in-None c = text-free c.args.file c.args.section c.args.self.now c.in-None.ensures

pub returns-in-Some : goal.returns-in-Some
returns-in-Some c =
    let d = c.index-as_slice-index.result in
    c.as_str.ensures ∙ ap (λ (labels : List Label). (get_or labels c.in-Some.index d).text) (c.as_slice.ensures ∙ c.self.view_is)
    ∙ text-found c.args.file c.args.section c.args.self.now c.in-Some.index d c.in-Some.ensures
