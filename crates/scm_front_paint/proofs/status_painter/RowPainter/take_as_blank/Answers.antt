use Rattle.std.proofs.Common.{◌∙◌, sym, ap, subst}
use Rattle.scm_cells.specs.Screen.{Screen}
use Rattle.scm_terminal.specs.StyledCell.{AreSameBefore, picture}
use Rattle.scm_front_paint.specs.Blank.{IsBlankAbove, IsBlankGrid, plain_at}
use Rattle.scm_front_paint.proofs.BlankLemmas.{blanks-blank, blanks-grid, blanks-same}
use Rattle.scm_front_paint.proofs.status_painter.RowPainter.take_as_blank.Goals as goal

pub paint_from-requires : goal.paint_from-requires
paint_from-requires c =
    subst (λ (s : Screen). AreSameBefore c.args.height s.width c.self.inside.painter (picture plain_at s))
    (sym c.in_ok-grid.ensures.ok) (blanks-same c.args.width c.args.height c.self.inside.painter c.self.invariant.rows_are)

pub invariant_of-self-2 : goal.invariant_of-self-2
invariant_of-self-2 c = record {
  rows_are = subst IsBlankAbove (sym (c.in_ok-_text.ensures.painted ∙ ap (λ (s : Screen). picture plain_at s) c.in_ok-grid.ensures.ok)) (blanks-blank c.args.width c.args.height);
  grid_is = subst IsBlankGrid (sym c.in_ok-grid.ensures.ok) (blanks-grid c.args.width c.args.height);
}
