use Rattle.std.proofs.Common.{◌≡◌, subst, ap, ◌∙◌}
use Rattle.scm_open_session.specs.declared.open_session.OpenSession.{OpenSession}
use Rattle.scm_open_session.specs.declared.open_session.Stage.{Stage}
use Rattle.scm_open_session.specs.Selecting.{Selects, code_of_select_at}
use Rattle.scm_open_session.proofs.open_session.OpenSession.select.Goals as goal

pub returns-clause-code : goal.returns-clause-code
returns-clause-code c = c.select_at-stage.ensures.code ∙ ap (code_of_select_at c.args.key) c.take_stage.ensures.stage

pub returns-clause-selected : goal.returns-clause-selected
returns-clause-selected c = λ done.
    subst (λ (s : Stage). Selects c.args.key s c.select_at-stage.result.0) c.take_stage.ensures.stage (c.select_at-stage.ensures.selected done)

pub returns-clause-kept : goal.returns-clause-kept
returns-clause-kept c = λ no.
    let t = c.take_stage.ensures in
    let stage = c.select_at-stage.ensures.kept no ∙ t.stage in
    let decoder = t.decoder in
    let painter = t.painter in
    let same : ◌≡◌ {A = OpenSession} (record { stage = c.select_at-stage.result.0; decoder = c.take_stage.new.self.decoder; painter = c.take_stage.new.self.painter })
    (record { stage = c.args.self.now.stage; decoder = c.args.self.now.decoder; painter = c.args.self.now.painter }) = cc in
    same
