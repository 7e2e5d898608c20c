-- The characters of a line that a screen cannot show, and their replacements.
use Rattle.std.specs.Prelude.{ℕ, false, ◌+◌, ◌-◌, ◌==◌, ◌&&◌, nat_lt, List, [], ◌∷◌, ◌++◌, length, take, slice_index_or, if◌then◌else◌, Option, Some, None, unwrap_or, encode_utf8}
use Rattle.std.specs.Option.{option_map_or}
use Rattle.std.specs.Str.{chars}
use Rattle.unicode_width.specs.Width.{char_width}
use Rattle.scm_cells.specs.Cluster.{is_printable}

-- the replacement of a character, if it has one: an arrow and three spaces for a tab, the return symbol for a newline,
-- the Unicode picture of another control character of ASCII, and U+FFFD for another character of width 0
unfoldable pub replacement : ℕ → Option (List ℕ)
replacement c =
    if c == 0x09 then Some (encode_utf8 0x2192 ++ 0x20 ∷ 0x20 ∷ 0x20 ∷ [])
    else if c == 0x0A then Some (encode_utf8 0x23CE)
    else if nat_lt c 0x20 then Some (encode_utf8 (0x2400 + c))
    else if c == 0x7F then Some (encode_utf8 0x2421)
    else if unwrap_or (char_width false c) 0 == 0 then Some (encode_utf8 0xFFFD)
    else None

-- the last piece of a line as a list; an empty one is left out
abbrev pub last_piece : List ℕ → List (List ℕ)
last_piece [] = []
last_piece (b ∷ bs) = (b ∷ bs) ∷ []

-- the pieces of the characters, where `piece` holds the bytes of the piece so far
unfoldable pub pieces_from : List ℕ → List ℕ → List (List ℕ)
pieces_from piece [] = last_piece piece
pieces_from piece (c ∷ cs) =
    option_map_or (λ r. piece ∷ (r ∷ pieces_from [] cs)) (replacement c) (pieces_from (piece ++ encode_utf8 c) cs)

-- the pieces of a line: for each replaced character the text before it and the replacement; then the rest, unless it is empty
unfoldable pub line_pieces : List ℕ → List (List ℕ)
line_pieces line = pieces_from [] (chars line)

-- the two pieces of a line of printable ASCII and a newline, or `None` of any other line
abbrev pub printable_line : List ℕ → Option (List ℕ × List ℕ)
printable_line line =
    if (slice_index_or line (length line - 1) 0 == 10) && is_printable (take (length line - 1) line)
    then Some (take (length line - 1) line, encode_utf8 0x23CE) else None
