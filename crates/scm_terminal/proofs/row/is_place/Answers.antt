use Rattle.scm_terminal.proofs.StyledCellLemmas.{at-letter}
use Rattle.scm_terminal.proofs.row.is_place.Goals as goal

pub returns-in-Some : goal.returns-in-Some
returns-in-Some c = rw (at-letter c.args.grid.now.rows c.args.row c.args.column c.in-Some.byte c.args.columns.now c.requires c.in-Some.ensures) c.is_letter.ensures
