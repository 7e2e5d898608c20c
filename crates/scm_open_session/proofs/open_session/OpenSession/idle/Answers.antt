use Rattle.std.proofs.Common.{◌≡◌, subst, ap, ◌∙◌}
use Rattle.scm_open_session.specs.declared.open_session.OpenSession.{OpenSession}
use Rattle.scm_open_session.specs.declared.open_session.Stage.{Stage}
use Rattle.scm_terminal.specs.declared.decoder.Decoder.{Decoder}
use Rattle.scm_open_session.specs.Stages.{Idles, is_waiting}
use Rattle.scm_open_session.proofs.open_session.OpenSession.idle.Goals as goal

pub returns-clause-is_waiting : goal.returns-clause-is_waiting
returns-clause-is_waiting c = c.rested-stage.ensures.is_waiting ∙ ap is_waiting c.take_stage.ensures.stage

pub returns-clause-silent : goal.returns-clause-silent
returns-clause-silent c = λ done.
    subst (λ (d : Decoder). Idles d c.rested-stage.new.decoder c.args.self.now.stage c.rested-stage.result.0) c.take_stage.ensures.decoder
    (subst (λ (s : Stage). Idles c.take_stage.new.self.decoder c.rested-stage.new.decoder s c.rested-stage.result.0) c.take_stage.ensures.stage (c.rested-stage.ensures.silent done))

pub returns-clause-kept : goal.returns-clause-kept
returns-clause-kept c = λ no.
    let t = c.take_stage.ensures in
    let stage = (c.rested-stage.ensures.kept no).0 ∙ t.stage in
    let decoder = (c.rested-stage.ensures.kept no).1 ∙ t.decoder in
    let painter = t.painter in
    let same : ◌≡◌ {A = OpenSession} (record { stage = c.rested-stage.result.0; decoder = c.rested-stage.new.decoder; painter = c.take_stage.new.self.painter })
    (record { stage = c.args.self.now.stage; decoder = c.args.self.now.decoder; painter = c.args.self.now.painter }) = cc in
    same
