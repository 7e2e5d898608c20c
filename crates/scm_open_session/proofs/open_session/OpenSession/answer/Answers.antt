use Rattle.std.proofs.Common.{◌≡◌, subst, ap, ◌∙◌}
use Rattle.scm_open_session.specs.declared.open_session.OpenSession.{OpenSession}
use Rattle.scm_open_session.specs.declared.open_session.Stage.{Stage}
use Rattle.std.specs.Prelude.{string_bytes}
use Rattle.scm_open_session.specs.Stages.{Says, is_editing}
use Rattle.scm_open_session.proofs.open_session.OpenSession.answer.Goals as goal

pub returns-clause-is_editing : goal.returns-clause-is_editing
returns-clause-is_editing c = c.answered-stage.ensures.is_editing ∙ ap is_editing c.take_stage.ensures.stage

pub returns-clause-said : goal.returns-clause-said
returns-clause-said c = λ done.
    subst (λ (s : Stage). Says (string_bytes c.args.text) s c.answered-stage.result.0) c.take_stage.ensures.stage (c.answered-stage.ensures.said done)

pub returns-clause-kept : goal.returns-clause-kept
returns-clause-kept c = λ no.
    let t = c.take_stage.ensures in
    let stage = c.answered-stage.ensures.kept no ∙ t.stage in
    let decoder = t.decoder in
    let painter = t.painter in
    let same : ◌≡◌ {A = OpenSession} (record { stage = c.answered-stage.result.0; decoder = c.take_stage.new.self.decoder; painter = c.take_stage.new.self.painter })
    (record { stage = c.args.self.now.stage; decoder = c.args.self.now.decoder; painter = c.args.self.now.painter }) = cc in
    same
