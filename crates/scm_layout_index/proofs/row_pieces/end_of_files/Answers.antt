use Rattle.std.proofs.Common.{sym}
use Rattle.scm_layout_index.proofs.SectionLemmas.{end-last, end-none}
use Rattle.scm_layout_index.proofs.row_pieces.end_of_files.Goals as goal

pub returns-in-Some : goal.returns-in-Some
returns-in-Some c = end-last c.args.top c.args.rows.now c.in-Some.file.now (sym c.in-Some.ensures)

pub returns-in-None : goal.returns-in-None
returns-in-None c = end-none c.args.top c.args.rows.now (sym c.in-None.ensures)
