use Rattle.std.proofs.Common.{ap}
use Rattle.std.specs.Prelude.{string_bytes}
use Rattle.scm_open_session.specs.Paint.{UpdatesStage}
use Rattle.scm_open_session.specs.Stages.{is_waiting}
use Rattle.scm_open_session.proofs.PaintLemmas.{updates}
use Rattle.scm_open_session.proofs.open_session.update_at.Goals as goal

pub returns-in-Waiting : goal.returns-in-Waiting
returns-in-Waiting c =
    updates string_bytes c.args.stage.now c.in-Waiting.session c.args.painter.now c.update.new.self c.update.result c.update_or_code.result
    c.in-Waiting.is c.update_or_code.ensures c.update.ensures.shown c.update.ensures.forgotten

pub returns-in-Building : goal.returns-in-Building
returns-in-Building c = UpdatesStage.not_due (ap is_waiting c.in-Building.is)

pub returns-in-Editing : goal.returns-in-Editing
returns-in-Editing c = UpdatesStage.not_due (ap is_waiting c.in-Editing.is)

pub returns-in-Accepted : goal.returns-in-Accepted
returns-in-Accepted c = UpdatesStage.not_due (ap is_waiting c.in-Accepted.is)

pub returns-in-Ended : goal.returns-in-Ended
returns-in-Ended c = UpdatesStage.not_due (ap is_waiting c.in-Ended.is)
