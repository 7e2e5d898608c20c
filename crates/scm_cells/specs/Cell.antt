-- One column of a row as a cell.
use Rattle.std.specs.Prelude.{ℕ, List, [], ◌∷◌, ◌==◌, ◌&&◌, if◌then◌else◌, Option, Some, None, encode_utf8, string_bytes}
use Rattle.std.specs.Int.{is_in_range}
use Rattle.scm_cells.specs.FrameText.{is_drawn}
use Rattle.scm_cells.specs.declared.column.Column.TheInside.{Inside}

-- one column of a symbol: its bytes at its first column and [] at a later one, its width, and how many of its columns come before this one
pub record Cell : Type 0 where
  pub symbol : List ℕ
  pub width : ℕ
  pub offset : ℕ

-- the cell of a symbol of one byte, in one column
abbrev pub byte_cell : ℕ → Cell
byte_cell b = record { symbol = b ∷ []; width = 1; offset = 0 }

-- the cell of a symbol of one character, in one column
abbrev pub char_cell : ℕ → Cell
char_cell c = record { symbol = encode_utf8 c; width = 1; offset = 0 }

-- the cell of a space
abbrev pub blank : Cell
blank = record { symbol = 32 ∷ []; width = 1; offset = 0 }

-- the byte of a text that is one printable character of ASCII, from a space to a tilde
abbrev pub single_byte : List ℕ → Option ℕ
single_byte [] = None
single_byte (b ∷ []) = if is_in_range 0x20 0x7E b then Some b else None
single_byte (b ∷ (c ∷ cs)) = None

-- the byte of a cell whose symbol is one printable character of ASCII, in one column
abbrev pub ascii_of : Cell → Option ℕ
ascii_of cell = if (cell.width == 1) && (cell.offset == 0) then single_byte cell.symbol else None

-- the text of an edge or corner of a frame, or of a mark
abbrev pub drawn_text : ℕ → Option (List ℕ)
drawn_text c = if is_drawn c then Some (encode_utf8 c) else None

-- the symbol of a `Column` that is no printable byte: an edge, corner or mark stands for its text
abbrev pub symbol_text : Inside → List ℕ
symbol_text c = if is_drawn c.code then encode_utf8 c.code else string_bytes c.symbol

-- the fields of `Column` as a cell: a printable byte stands for its symbol
abbrev pub cell_of : Inside → Cell
cell_of c =
    if is_in_range 0x20 0x7E c.code then byte_cell c.code
    else record { symbol = symbol_text c; width = c.width; offset = c.offset }
