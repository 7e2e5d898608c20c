use Rattle.scm_open_session.specs.Boxes.{box_value}
use Rattle.scm_open_session.proofs.CellCallLemmas.{cells-told, cells-untold}
use Rattle.scm_open_session.proofs.cell_calls.cells.Goals as goal

pub returns-in-Ok : goal.returns-in-Ok
returns-in-Ok c =
    cells-told (box_value c.args.session.now) c.session_cells.result c.in-Ok.screen c.args.cells.now c.tell_screen.new.cells c.args.out.now c.tell_screen.new.out c.args.told.now c.tell_screen.new.told
    c.in-Ok.is c.session_cells.ensures c.tell_screen.ensures

pub returns-in-Err : goal.returns-in-Err
returns-in-Err c =
    cells-untold (box_value c.args.session.now) c.session_cells.result c.in-Err.code c.args.cells.now c.args.out.now c.args.told.now c.in-Err.is c.session_cells.ensures
