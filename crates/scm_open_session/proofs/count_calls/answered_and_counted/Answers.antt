use Rattle.std.proofs.Common.{◌≡◌, IfNone, IfSome, ap, sym, subst, ◌∙◌}
use Rattle.std.specs.Prelude.{string_bytes}
use Rattle.scm_open_session.specs.declared.open_session.Stage.{Stage}
use Rattle.scm_open_session.specs.Counting.{SaysAndCounts, is_plain_editing}
use Rattle.scm_open_session.proofs.CountLemmas.{not_plain_editing}
use Rattle.scm_open_session.proofs.count_calls.answered_and_counted.Goals as goal

pub returns-in-Editing-clause-is_counted : goal.returns-in-Editing-clause-is_counted
returns-in-Editing-clause-is_counted c = c.after_counted_message.ensures.is_counted ∙ ap is_plain_editing (sym c.in-Editing.is)

pub returns-in-Editing-clause-said : goal.returns-in-Editing-clause-said
returns-in-Editing-clause-said c =
    subst (λ (s : Stage). IfSome c.after_counted_message.result.1 (λ handled. SaysAndCounts (string_bytes c.args.text) handled s c.after_counted_message.result.0)) (sym c.in-Editing.is)
    c.after_counted_message.ensures.said

pub returns-in-Editing-clause-kept : goal.returns-in-Editing-clause-kept
returns-in-Editing-clause-kept c =
    subst (λ (s : Stage). IfNone c.after_counted_message.result.1 (c.after_counted_message.result.0 ≡ s)) (sym c.in-Editing.is) c.after_counted_message.ensures.kept

pub returns-in_default-clause-is_counted : goal.returns-in_default-clause-is_counted
returns-in_default-clause-is_counted c = not_plain_editing c.args.stage c.in_default.not-Editing
