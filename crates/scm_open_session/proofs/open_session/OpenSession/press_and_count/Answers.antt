use Rattle.std.proofs.Common.{◌≡◌, IfSome, subst, ap, ◌∙◌}
use Rattle.scm_open_session.specs.declared.open_session.OpenSession.{OpenSession}
use Rattle.scm_open_session.specs.declared.open_session.Stage.{Stage}
use Rattle.scm_open_session.specs.Counting.{PressesAndCounts, is_plain_waiting}
use Rattle.scm_open_session.proofs.CountLemmas.{none-weaker}
use Rattle.scm_open_session.proofs.open_session.OpenSession.press_and_count.Goals as goal

pub returns-clause-is_counted : goal.returns-clause-is_counted
returns-clause-is_counted c = c.pressed_and_counted-stage.ensures.is_counted ∙ ap is_plain_waiting c.take_stage.ensures.stage

pub returns-clause-pressed : goal.returns-clause-pressed
returns-clause-pressed c =
    subst (λ (s : Stage). IfSome c.pressed_and_counted-stage.result.1 (λ handled. PressesAndCounts c.args.events.now handled s c.pressed_and_counted-stage.result.0)) c.take_stage.ensures.stage
    c.pressed_and_counted-stage.ensures.pressed

pub returns-clause-kept : goal.returns-clause-kept
returns-clause-kept c =
    none-weaker c.pressed_and_counted-stage.result.1 (λ kept.
    let t = c.take_stage.ensures in
    let stage = kept ∙ t.stage in
    let decoder = t.decoder in
    let painter = t.painter in
    let same : ◌≡◌ {A = OpenSession} (record { stage = c.pressed_and_counted-stage.result.0; decoder = c.take_stage.new.self.decoder; painter = c.take_stage.new.self.painter })
    (record { stage = c.args.self.now.stage; decoder = c.args.self.now.decoder; painter = c.args.self.now.painter }) = cc in
    same)
    c.pressed_and_counted-stage.ensures.kept
