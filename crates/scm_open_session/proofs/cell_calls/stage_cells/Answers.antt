use Rattle.std.proofs.Common.{ap}
use Rattle.scm_open_session.specs.Cells.{StageCells}
use Rattle.scm_open_session.specs.Stages.{is_waiting}
use Rattle.scm_open_session.proofs.CellCallLemmas.{refused-at, shown-at}
use Rattle.scm_open_session.proofs.cell_calls.stage_cells.Goals as goal

pub returns-in-Some : goal.returns-in-Some
returns-in-Some c = shown-at c.args.stage.now c.in-Waiting.session c.args.painters.now c.in-Some.screen c.in-Waiting.is c.in-Some.ensures

pub returns-in-None : goal.returns-in-None
returns-in-None c = refused-at c.args.stage.now c.in-Waiting.session c.args.painters.now c.in-Waiting.is

pub returns-in-Building : goal.returns-in-Building
returns-in-Building c = StageCells.not_due (ap is_waiting c.in-Building.is)

pub returns-in-Editing : goal.returns-in-Editing
returns-in-Editing c = StageCells.not_due (ap is_waiting c.in-Editing.is)

pub returns-in-Accepted : goal.returns-in-Accepted
returns-in-Accepted c = StageCells.not_due (ap is_waiting c.in-Accepted.is)

pub returns-in-Ended : goal.returns-in-Ended
returns-in-Ended c = StageCells.not_due (ap is_waiting c.in-Ended.is)
