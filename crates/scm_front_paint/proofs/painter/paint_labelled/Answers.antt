use Rattle.std.proofs.Common.{◌∙◌}
use Rattle.std.proofs.lemmas.Result.{IfOk-weaker, on_ok_weaker}
use Rattle.scm_front_paint.specs.ShownView.{style_in}
use Rattle.scm_front_paint.proofs.PaintLemmas.{first-paints, first-picture}
use Rattle.scm_front_paint.proofs.painter.paint_labelled.Goals as goal

pub returns-clause-ok : goal.returns-clause-ok
returns-clause-ok c =
    let l = c.args.shown.now.session.now in
    let source = c.args._source.now in
    IfOk-weaker c.paint.result _ _ (λ text p.
    first-paints (style_in c.args.shown.now) source.labels.now source.grid.now l c.args.x (record { width = c.requires.width; rows = c.requires.rows })
    c.requires.zero c.args.cut.now c.requires.cut _ _ p) c.paint.ensures.ok

pub returns-clause-painted : goal.returns-clause-painted
returns-clause-painted c =
    let l = c.args.shown.now.session.now in
    let source = c.args._source.now in
    on_ok_weaker c.paint.result (λ e.
    e ∙ first-picture (style_in c.args.shown.now) source.labels.now source.grid.now l c.args.x (record { width = c.requires.width; rows = c.requires.rows })
    c.requires.zero c.args.cut.now c.requires.cut) c.paint.ensures.painted
