use Rattle.std.proofs.Common.{◌∙◌, ℕ}
use Rattle.scm_render.specs.Canvas.{Row}
use Rattle.scm_strips.proofs.RowLemmas.{on-ok}
use Rattle.scm_view.specs.Window.{inline_document}
use Rattle.scm_screen.specs.DocumentRows.{row_shown, with_shown}
use Rattle.scm_screen.proofs.EachLemmas.{both-painted, each-begin}
use Rattle.scm_screen.proofs.paint.paint_document.Goals as goal

pub returns-clause-ok : goal.returns-clause-ok
returns-clause-ok c =
    let paint = λ (z : ℕ) (line : Row). with_shown c.args.area (row_shown (inline_document c.args.shown.now) z) line in
    let under = c.in_ok-paint_shown.ensures.ok ∙ each-begin paint c.args.scroll c.args.grid.now.rows in
    on-ok c.paint_top.result (λ p. both-painted c.args.area c.args.scroll (inline_document c.args.shown.now) c.args.grid.now.rows _ _ under p) c.paint_top.ensures.ok
