use Rattle.scm_terminal.specs.StyledCell.{picture}
use Rattle.scm_record.specs.Painted.{screen_of}
use Rattle.scm_shown_cells.proofs.CellLemmas.{rows-as}
use Rattle.scm_front_paint.specs.Labels.{symbols_over}
use Rattle.scm_front_paint.specs.ShownView.{moved_style, style_in}
use Rattle.scm_front_paint.specs.Sideways.{sideways_picture}
use Rattle.scm_front_paint.proofs.PaintLemmas.{part-picture}
use Rattle.scm_front_paint.proofs.view_cells.push_cut.Goals as goal

pub returns-clause-ok : goal.returns-clause-ok
returns-clause-ok c =
    let l = c.args.shown.now.session.now in
    let source = c.args._source.now in
    let style = style_in c.args.shown.now in
    rows-as _ (sideways_picture c.args.x style (symbols_over source.labels.now (screen_of l))) c.args.list.now c.push_rows.new.self
    (part-picture style source.labels.now source.grid.now l c.args.x (record { width = c.requires.width; rows = c.requires.rows }) c.args.cut.now c.requires.cut)
    c.in_ok-push_rows.ensures
