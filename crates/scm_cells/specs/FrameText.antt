-- Frame text: printable ASCII and the marks that are drawn with it, where each character is a cluster of one column.
use Rattle.std.specs.Prelude.{ℕ, ◌==◌, ◌||◌, Bool, List, length, encode_utf8, map, if◌then◌else◌, Option, Some, None}
use Rattle.std.specs.Int.{is_in_range}
use Rattle.std.specs.List.{list_all}
use Rattle.std.specs.Str.{chars}
use Rattle.scm_cells.specs.Cluster.{Cluster}

-- whether a character is an edge or a corner of a frame
abbrev pub is_frame_line : ℕ → Bool
is_frame_line c = (c == 0x2500) || (c == 0x2502) || (c == 0x250C) || (c == 0x2510) || (c == 0x2514) || (c == 0x2518)

-- whether a character is a mark in a box (±, ●, ◐), between texts or for their rest (•, ⋮, …), an arrow (← ↑ → ↓), a line end (⏎),
-- or the replacement of a character (U+FFFD)
abbrev pub is_mark : ℕ → Bool
is_mark c =
    (c == 0xB1) || (c == 0x2022) || (c == 0x2026) || (c == 0x2190) || (c == 0x2191) || (c == 0x2192) || (c == 0x2193) || (c == 0x22EE)
    || (c == 0x23CE) || (c == 0x25CF) || (c == 0x25D0) || (c == 0xFFFD)

-- whether a character is drawn with printable ASCII: an edge or a corner of a frame, or a mark
abbrev pub is_drawn : ℕ → Bool
is_drawn c = is_frame_line c || is_mark c

-- whether a character is printable ASCII, an edge or a corner of a frame, or a mark
abbrev pub is_frame_char : ℕ → Bool
is_frame_char c = is_in_range 0x20 0x7E c || is_frame_line c || is_mark c

-- whether each character of the text is one of these
abbrev pub is_frame_text : List ℕ → Bool
is_frame_text text = list_all is_frame_char (chars text)

-- the number of characters of a frame text, or `None` of any other text
abbrev pub frame_width : List ℕ → Option ℕ
frame_width text = if is_frame_text text then Some (length (chars text)) else None

-- each character as a cluster of one column
unfoldable pub chars_as_clusters : List ℕ → List Cluster
chars_as_clusters cs = map (λ c. (encode_utf8 c, 1)) cs
