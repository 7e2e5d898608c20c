use Rattle.std.proofs.Common.{◌≡◌, [], true, false, sym, ◌∙◌, ap, arith}
use Rattle.scm_front_paint.specs.declared.labels.Label.{Label}
use Rattle.scm_front_paint.specs.Labels.{is_of}
use Rattle.scm_front_paint.proofs.LabelOrderLemmas.{place-found, place-free}
use Rattle.scm_front_paint.proofs.labels.position_by_halves.Goals as goal
use Rattle.scm_front_paint.proofs.labels.position_by_halves.Goals.{else-index-labels-via-then-index-labels+else-is_of, else-index-labels-via-else-index-labels}

pub returns-then-is_of : goal.returns-then-is_of
returns-then-is_of c =
    place-found c.args.file c.args.section c.args.labels.now c.requires c.count_before-index.result c.count_before-index.ensures.point c.index-labels-index.result
    c.if-index-labels.true (ap (is_of c.args.file c.args.section) (sym c.index-labels-index.is) ∙ sym c.is_of.ensures ∙ c.if-is_of.true)

pub returns-else-index-labels : goal.returns-else-index-labels
returns-else-index-labels c = elim c.else-index-labels.branch [
  | else-index-labels-via-then-index-labels+else-is_of w ↦
      place-free c.args.file c.args.section c.args.labels.now c.requires c.count_before-index.result c.count_before-index.ensures.point w.index-labels-index.result
      (λ h. ap (is_of c.args.file c.args.section) (sym w.index-labels-index.is) ∙ sym w.is_of.ensures ∙ w.if-is_of.false)
  | else-index-labels-via-else-index-labels w ↦
      let past = w.if-index-labels.false in
      let none : Label = record { file = 0; section = 0; text = [] } in
      place-free c.args.file c.args.section c.args.labels.now c.requires c.count_before-index.result c.count_before-index.ensures.point none
      (λ h. absurd (omega (arith, past, h)))
]
