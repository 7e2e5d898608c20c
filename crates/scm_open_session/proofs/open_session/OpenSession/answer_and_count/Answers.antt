use Rattle.std.proofs.Common.{◌≡◌, IfSome, subst, ap, ◌∙◌}
use Rattle.std.specs.Prelude.{string_bytes}
use Rattle.scm_open_session.specs.declared.open_session.OpenSession.{OpenSession}
use Rattle.scm_open_session.specs.declared.open_session.Stage.{Stage}
use Rattle.scm_open_session.specs.Counting.{SaysAndCounts, is_plain_editing}
use Rattle.scm_open_session.proofs.CountLemmas.{none-weaker}
use Rattle.scm_open_session.proofs.open_session.OpenSession.answer_and_count.Goals as goal

pub returns-clause-is_counted : goal.returns-clause-is_counted
returns-clause-is_counted c = c.answered_and_counted-stage.ensures.is_counted ∙ ap is_plain_editing c.take_stage.ensures.stage

pub returns-clause-said : goal.returns-clause-said
returns-clause-said c =
    subst (λ (s : Stage). IfSome c.answered_and_counted-stage.result.1 (λ handled. SaysAndCounts (string_bytes c.args.text) handled s c.answered_and_counted-stage.result.0)) c.take_stage.ensures.stage
    c.answered_and_counted-stage.ensures.said

pub returns-clause-kept : goal.returns-clause-kept
returns-clause-kept c =
    none-weaker c.answered_and_counted-stage.result.1 (λ kept.
    let t = c.take_stage.ensures in
    let stage = kept ∙ t.stage in
    let decoder = t.decoder in
    let painter = t.painter in
    let same : ◌≡◌ {A = OpenSession} (record { stage = c.answered_and_counted-stage.result.0; decoder = c.take_stage.new.self.decoder; painter = c.take_stage.new.self.painter })
    (record { stage = c.args.self.now.stage; decoder = c.args.self.now.decoder; painter = c.args.self.now.painter }) = cc in
    same)
    c.answered_and_counted-stage.ensures.kept
