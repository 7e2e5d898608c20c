use Rattle.std.proofs.Common.{sym, subst}
use Rattle.scm_open_session.specs.declared.open_session.Stage.{Stage}
use Rattle.scm_open_session.specs.Stages.{Idles}
use Rattle.scm_open_session.proofs.open_session.rested.Goals as goal

pub returns-in-Waiting-clause-silent : goal.returns-in-Waiting-clause-silent
returns-in-Waiting-clause-silent c = λ done.
    subst (λ (s : Stage). Idles c.args.decoder.now c.after_silence.new.decoder s c.after_silence.result) (sym c.in-Waiting.is) c.after_silence.ensures
