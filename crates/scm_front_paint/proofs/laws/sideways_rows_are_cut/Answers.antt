use Rattle.std.proofs.lemmas.List.{get_or-drop}
use Rattle.std.proofs.Common.{drop, ◌∙◌, arith}
use Rattle.scm_terminal.specs.StyledCell.{Later}
use Rattle.scm_front_paint.proofs.SidewaysLemmas.{at-zero, front-below, front-past}
use Rattle.scm_front_paint.proofs.PaintLemmas.{width-is, rows-are}
use Rattle.scm_front_paint.proofs.laws.sideways_rows_are_cut.Goals as goal

pub returns : goal.returns
returns c = record {
  zero = λ style s is. at-zero style s is;
  column = λ style x c cells h. front-past style x (drop x cells) c h ∙ get_or-drop x cells c Later;
  halved = λ style x c cells h. front-below style x (drop x cells) c h;
  size = λ v is h few. (width-is v is, let e = rows-are v is in omega arith);
}
