use Rattle.std.proofs.Common.{◌≡◌, IfNone, IfSome, ap, sym, subst, ◌∙◌}
use Rattle.scm_open_session.specs.declared.open_session.Stage.{Stage}
use Rattle.scm_open_session.specs.Counting.{PressesAndCounts, is_plain_waiting}
use Rattle.scm_open_session.proofs.CountLemmas.{not_plain_waiting}
use Rattle.scm_open_session.proofs.count_calls.pressed_and_counted.Goals as goal

pub returns-in-Waiting-clause-is_counted : goal.returns-in-Waiting-clause-is_counted
returns-in-Waiting-clause-is_counted c = c.after_counted_batch.ensures.is_counted ∙ ap is_plain_waiting (sym c.in-Waiting.is)

pub returns-in-Waiting-clause-pressed : goal.returns-in-Waiting-clause-pressed
returns-in-Waiting-clause-pressed c =
    subst (λ (s : Stage). IfSome c.after_counted_batch.result.1 (λ handled. PressesAndCounts c.args.events.now handled s c.after_counted_batch.result.0)) (sym c.in-Waiting.is)
    c.after_counted_batch.ensures.pressed

pub returns-in-Waiting-clause-kept : goal.returns-in-Waiting-clause-kept
returns-in-Waiting-clause-kept c =
    subst (λ (s : Stage). IfNone c.after_counted_batch.result.1 (c.after_counted_batch.result.0 ≡ s)) (sym c.in-Waiting.is) c.after_counted_batch.ensures.kept

pub returns-in_default-clause-is_counted : goal.returns-in_default-clause-is_counted
returns-in_default-clause-is_counted c = not_plain_waiting c.args.stage c.in_default.not-Waiting
