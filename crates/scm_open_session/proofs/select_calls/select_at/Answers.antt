use Rattle.std.proofs.Common.{◌≡◌, ap, sym, subst, ◌∙◌}
use Rattle.scm_open_session.specs.declared.open_session.Stage.{Stage}
use Rattle.scm_open_session.specs.Selecting.{Selects, code_of_select_at}
use Rattle.scm_open_session.proofs.MarkingLemmas.{select_no_event}
use Rattle.scm_open_session.proofs.select_calls.select_at.Goals as goal

pub returns-in-Waiting-clause-code : goal.returns-in-Waiting-clause-code
returns-in-Waiting-clause-code c = c.select_now.ensures.code ∙ ap (code_of_select_at c.args.key) (sym c.in-Waiting.is)

pub returns-in-Waiting-clause-selected : goal.returns-in-Waiting-clause-selected
returns-in-Waiting-clause-selected c = λ done.
    subst (λ (s : Stage). Selects c.args.key s c.select_now.result.0) (sym c.in-Waiting.is) (c.select_now.ensures.selected done)

pub returns-in-Waiting-clause-kept : goal.returns-in-Waiting-clause-kept
returns-in-Waiting-clause-kept c = λ no. c.select_now.ensures.kept no ∙ sym c.in-Waiting.is

pub returns-in_default-clause-code : goal.returns-in_default-clause-code
returns-in_default-clause-code c = select_no_event c.args.key c.args.stage c.in_default.not-Waiting
