use Rattle.std.proofs.Common.{ap, sym, ◌∙◌, refl, subst}
use Rattle.scm_front_items.specs.declared.runs.Step.{Step}
use Rattle.scm_front_items.specs.Histories.{KeepsStep}
use Rattle.scm_front.specs.Recording.{keeps, stays}
use Rattle.scm_front.proofs.RememberLemmas.{empty-is, some-changed}
use Rattle.scm_front.proofs.recording.recorded.Goals as goal

pub returns-then-not-is_empty : goal.returns-then-not-is_empty
returns-then-not-is_empty c =
    keeps c.in-Some.before c.in-Some.is
    (some-changed c.args.files.now c.in-Some.before c.changed_step-step.result c.is_empty.result c.changed_step-step.ensures c.is_empty.ensures c.if-not-is_empty.true)
    (subst (λ (step : Step). KeepsStep c.args.history.undos step c.remember.new.self.undos) c.changed_step-step.ensures c.remember.ensures.undos)
    c.remember.ensures.redos

pub returns-else-not-is_empty : goal.returns-else-not-is_empty
returns-else-not-is_empty c =
    stays c.in-Some.before c.in-Some.is
    (sym (ap (λ (step : Step). step.runs) c.changed_step-step.ensures) ∙ empty-is c.changed_step-step.result.runs c.is_empty.result c.is_empty.ensures c.if-not-is_empty.false)
    refl
