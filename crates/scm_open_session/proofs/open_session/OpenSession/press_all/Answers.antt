use Rattle.std.proofs.Common.{◌≡◌, subst, ap, ◌∙◌}
use Rattle.scm_open_session.specs.declared.open_session.OpenSession.{OpenSession}
use Rattle.scm_open_session.specs.declared.open_session.Stage.{Stage}
use Rattle.scm_open_session.specs.Stages.{is_waiting}
use Rattle.scm_open_session.specs.Batches.{PressesAll}
use Rattle.scm_open_session.proofs.open_session.OpenSession.press_all.Goals as goal

pub returns-clause-is_waiting : goal.returns-clause-is_waiting
returns-clause-is_waiting c = c.pressed_all-stage.ensures.is_waiting ∙ ap is_waiting c.take_stage.ensures.stage

pub returns-clause-pressed : goal.returns-clause-pressed
returns-clause-pressed c = λ done.
    subst (λ (s : Stage). PressesAll c.args.events.now s c.pressed_all-stage.result.0) c.take_stage.ensures.stage (c.pressed_all-stage.ensures.pressed done)

pub returns-clause-kept : goal.returns-clause-kept
returns-clause-kept c = λ no.
    let t = c.take_stage.ensures in
    let stage = c.pressed_all-stage.ensures.kept no ∙ t.stage in
    let decoder = t.decoder in
    let painter = t.painter in
    let same : ◌≡◌ {A = OpenSession} (record { stage = c.pressed_all-stage.result.0; decoder = c.take_stage.new.self.decoder; painter = c.take_stage.new.self.painter })
    (record { stage = c.args.self.now.stage; decoder = c.args.self.now.decoder; painter = c.args.self.now.painter }) = cc in
    same
