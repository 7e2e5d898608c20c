use Rattle.std.proofs.Common.{sym, subst}
use Rattle.scm_open_session.specs.declared.open_session.Stage.{Stage}
use Rattle.scm_open_session.specs.Stages.{Types}
use Rattle.scm_open_session.proofs.open_session.heard.Goals as goal

pub returns-in-Waiting-clause-typed : goal.returns-in-Waiting-clause-typed
returns-in-Waiting-clause-typed c = λ done.
    subst (λ (s : Stage). Types c.args.bytes.now c.args.decoder.now c.after_bytes.new.decoder s c.after_bytes.result) (sym c.in-Waiting.is) c.after_bytes.ensures
