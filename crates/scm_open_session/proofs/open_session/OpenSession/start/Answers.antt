use Rattle.std.proofs.Common.{◌≡◌, subst, ap, ◌∙◌}
use Rattle.scm_open_session.specs.declared.open_session.OpenSession.{OpenSession}
use Rattle.scm_open_session.specs.declared.open_session.Stage.{Stage}
use Rattle.scm_open_session.specs.LayerCalls.{SetsStart, is_view}
use Rattle.scm_open_session.proofs.open_session.OpenSession.start.Goals as goal

pub returns-clause-is_view : goal.returns-clause-is_view
returns-clause-is_view c = c.started-stage.ensures.is_view ∙ ap is_view c.take_stage.ensures.stage

pub returns-clause-set : goal.returns-clause-set
returns-clause-set c = λ done.
    subst (λ (s : Stage). SetsStart c.args.folds c.args.first s c.started-stage.result.0) c.take_stage.ensures.stage (c.started-stage.ensures.set done)

pub returns-clause-kept : goal.returns-clause-kept
returns-clause-kept c = λ no.
    let t = c.take_stage.ensures in
    let stage = c.started-stage.ensures.kept no ∙ t.stage in
    let decoder = t.decoder in
    let painter = t.painter in
    let same : ◌≡◌ {A = OpenSession} (record { stage = c.started-stage.result.0; decoder = c.take_stage.new.self.decoder; painter = c.take_stage.new.self.painter })
    (record { stage = c.args.self.now.stage; decoder = c.args.self.now.decoder; painter = c.args.self.now.painter }) = cc in
    same
