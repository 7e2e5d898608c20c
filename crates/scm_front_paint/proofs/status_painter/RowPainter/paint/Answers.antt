use Rattle.std.proofs.Common.{◌∙◌, sym, ap, subst}
use Rattle.scm_cells.specs.Screen.{Screen}
use Rattle.scm_terminal.specs.StyledCell.{AreSameBefore, picture}
use Rattle.scm_front_paint.specs.Blank.{IsBlankAbove, IsBlankGrid}
use Rattle.scm_front_paint.specs.Status.{status_style}
use Rattle.scm_front_paint.proofs.BlankLemmas.{status-blank, status-grid, status-same}
use Rattle.scm_front_paint.proofs.status_painter.RowPainter.paint.Goals as goal

pub paint_from-requires : goal.paint_from-requires
paint_from-requires c =
    subst (λ (s : Screen). AreSameBefore c.args.height s.width c.self.inside.painter (picture (status_style c.args.height) s))
    (sym c.in_ok-grid.ensures.ok) (status-same c.args.width c.args.height c.args.left.now c.args.right.now c.self.inside.painter c.self.invariant.rows_are)

pub invariant_of-self-2 : goal.invariant_of-self-2
invariant_of-self-2 c = record {
  rows_are = subst IsBlankAbove (sym (c.in_ok-text.ensures.painted ∙ ap (λ (s : Screen). picture (status_style c.args.height) s) c.in_ok-grid.ensures.ok))
      (status-blank c.args.width c.args.height c.args.left.now c.args.right.now);
  grid_is = subst IsBlankGrid (sym c.in_ok-grid.ensures.ok) (status-grid c.args.width c.args.height c.args.left.now c.args.right.now);
}
