-- The line that the fields of `Row` represent.
use Rattle.scm_terminal.specs.declared.row.Row.{Row}
use Rattle.scm_terminal.specs.Painting.{Line, sent_line}

-- the line of a row of the painter
abbrev pub line_of : Row → Line
line_of row = record { cells = row.cells.items; is_changed = row.is_changed }

-- the line that is sent for a row of the painter
abbrev pub sent_line_of : Row → Line
sent_line_of row = sent_line (line_of row)
