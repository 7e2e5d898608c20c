use Rattle.std.proofs.Common.{arith}
use Rattle.scm_cells.proofs.BoundLemmas.{text_width-utf8}
use Rattle.scm_cells.proofs.grid.Grid.put_measured.Goals as goal

pub columns_left-requires : goal.columns_left-requires
columns_left-requires c = omega (arith, c.in_ok-rest.ensures.taken, text_width-utf8 _ c.utf8.text)

pub overflow_add-result : goal.overflow_add-result
overflow_add-result c = omega (arith, c.in_ok-rest.ensures.taken, c.columns_left.ensures, text_width-utf8 _ c.utf8.text)
