use Rattle.scm_open_session.proofs.CellCallLemmas.{plain-screen, when-done}
use Rattle.scm_open_session.proofs.cell_calls.plain_cells.Goals as goal

pub returns : goal.returns
returns c =
    plain-screen c.args.session.now c.grid-grid.result.now c.new-list.result (record { list = c.push_rows.new.self; columns = c.width.result; rows = c.height.result }) c.grid-grid.ensures.width c.grid-grid.ensures.rows
    c.new-list.ensures.cells c.new-list.ensures.text (when-done c.push_rows.result c.in_ok-ok.ensures.variant c.push_rows.ensures) c.width.ensures.value c.height.ensures.value
