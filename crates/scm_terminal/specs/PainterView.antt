-- The last picture that the fields of `Painter` represent.
use Rattle.std.specs.Prelude.{List, map}
use Rattle.scm_terminal.specs.declared.row.Row.{Row}
use Rattle.scm_terminal.specs.declared.painter.Painter.TheInside.{Inside}
use Rattle.scm_terminal.specs.StyledCell.{StyledCell}

-- the cells of a row
abbrev pub cells_of_row : Row → List StyledCell
cells_of_row row = row.cells.items

-- the last picture of a painter; no rows if what the terminal shows is unknown
abbrev pub last_picture : Inside → List (List StyledCell)
last_picture p = map cells_of_row p.rows.items
