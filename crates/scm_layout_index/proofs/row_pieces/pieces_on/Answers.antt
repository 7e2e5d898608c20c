use Rattle.std.proofs.Common.{sym}
use Rattle.scm_layout_index.proofs.row_pieces.pieces_on.Goals as goal

pub section_in-requires : goal.section_in-requires
section_in-requires c = c.requires.sections c.in_ok-index.index c.in_ok-file_rows.file_rows.now (sym c.in_ok-file_rows.ensures)
