use Rattle.std.proofs.Common.{◌∙◌}
use Rattle.std.proofs.lemmas.Result.{IfOk-weaker, on_ok_weaker}
use Rattle.scm_front_paint.specs.ShownView.{style_in}
use Rattle.scm_front_paint.proofs.PaintLemmas.{whole-paints, whole-picture}
use Rattle.scm_front_paint.proofs.painter.paint_whole.Goals as goal

pub returns-clause-ok : goal.returns-clause-ok
returns-clause-ok c =
    let l = c.args.shown.now.session.now in
    IfOk-weaker c.paint.result _ _ (λ text p.
    whole-paints (style_in c.args.shown.now) c.args.labels.now c.args.grid.now l c.args.x (record { width = c.requires.width; rows = c.requires.rows })
    c.requires.none c.width-width.ensures.sizes c.requires.zero _ _ p) c.paint.ensures.ok

pub returns-clause-painted : goal.returns-clause-painted
returns-clause-painted c =
    let l = c.args.shown.now.session.now in
    on_ok_weaker c.paint.result (λ e.
    e ∙ whole-picture (style_in c.args.shown.now) c.args.labels.now c.args.grid.now l c.args.x (record { width = c.requires.width; rows = c.requires.rows })
    c.requires.none c.width-width.ensures.sizes c.requires.zero) c.paint.ensures.painted
