use Rattle.std.proofs.Common.{sym, subst}
use Rattle.std.specs.Prelude.{string_bytes}
use Rattle.scm_open_session.specs.declared.open_session.Stage.{Stage}
use Rattle.scm_open_session.specs.Stages.{Says}
use Rattle.scm_open_session.proofs.open_session.answered.Goals as goal

pub returns-in-Editing-clause-said : goal.returns-in-Editing-clause-said
returns-in-Editing-clause-said c = λ done.
    subst (λ (s : Stage). Says (string_bytes c.args.text) s c.after_message.result) (sym c.in-Editing.is) c.after_message.ensures
