use Rattle.std.proofs.Common.{arith}
use Rattle.scm_cells.proofs.RectLemmas.{places}
use Rattle.scm_document.proofs.section_view.SectionView.row_below.Goals as goal

pub height-requires : goal.height-requires
height-requires c = omega (arith, places, c.requires.y, c.requires.end)
