use Rattle.std.proofs.Common.{ap, sym, ◌∙◌, refl}
use Rattle.scm_front_items.specs.declared.runs.Step.{Step}
use Rattle.scm_front.specs.Recording.{runs_changed, runs_stay}
use Rattle.scm_front.proofs.RememberLemmas.{empty-is, some-changed}
use Rattle.scm_front.proofs.recording.restarted.Goals as goal

pub returns-then-is_empty : goal.returns-then-is_empty
returns-then-is_empty c =
    runs_stay c.in-Some.before c.in-Some.is
    (sym (ap (λ (step : Step). step.runs) c.changed_step.ensures) ∙ empty-is c.changed_step.result.runs c.is_empty.result c.is_empty.ensures c.if-is_empty.true)
    refl

pub returns-else-is_empty : goal.returns-else-is_empty
returns-else-is_empty c =
    runs_changed c.in-Some.before c.in-Some.is
    (some-changed c.args.files.now c.in-Some.before c.changed_step.result c.is_empty.result c.changed_step.ensures c.is_empty.ensures c.if-is_empty.false)
    c.new-else-is_empty.ensures
