use Rattle.std.proofs.Common.{ap}
use Rattle.scm_open_session.specs.Boxes.{box_value}
use Rattle.scm_open_session.proofs.CellCallLemmas.{cells-closed, cells-open}
use Rattle.scm_open_session.proofs.cell_calls.session_cells.Goals as goal

pub returns-in-Some : goal.returns-in-Some
returns-in-Some c = cells-open (box_value c.args.session.now) c.in-Some.inner.value c.deref.result.now c.cells.result (ap box_value c.in-Some.is) c.deref.ensures c.cells.ensures

pub returns-in-None : goal.returns-in-None
returns-in-None c = cells-closed (box_value c.args.session.now) (ap box_value c.in-None.is)
