-- The cell that the fields of `StyledCell` represent.
use Rattle.std.specs.Prelude.{[], ◌∷◌, if◌then◌else◌, string_bytes}
use Rattle.std.specs.Int.{is_in_range}
use Rattle.scm_terminal.specs.declared.styled_cell.StyledCell.TheInside.{Inside}
use Rattle.scm_terminal.specs.StyledCell.{StyledCell, First, Later}

-- the first column of a symbol with its style, or a later column: a printable byte stands for its symbol
abbrev pub shown_cell : Inside → StyledCell
shown_cell p =
    if is_in_range 0x20 0x7E p.byte then First (p.byte ∷ []) p.style
    else if p.is_first then First (string_bytes p.symbol) p.style
    else Later
