-- Bytes as a text, and back. A byte that is not part of UTF-8 becomes a reserved character.
use Rattle.std.specs.Prelude.{◌≡◌, ℕ, zero, suc, ◌+◌, ◌-◌, ◌<◌, ◌≤◌, ◌==◌, List, [], ◌∷◌, ◌++◌, take, drop, length, Bool, not, nat_le, ◌&&◌, if◌then◌else◌}
use Rattle.std.specs.List.{flat_map, list_any}
use Rattle.std.specs.Char.{encode_utf8}
use Rattle.std.specs.Str.{chars, is_utf8}
use Rattle.scm_types.specs.declared.file.File.{File}
use Rattle.scm_diff.specs.Sides.{side_text}

-- the reserved character that stands for the byte `b`, of 128 to 255: one that Unicode gives no meaning, and no column
abbrev pub reserved_char : ℕ → ℕ
reserved_char b = 0xE0000 + b

-- whether the character is reserved
abbrev pub is_reserved : ℕ → Bool
is_reserved c = nat_le 0xE0080 c && nat_le c 0xE00FF

-- whether the bytes are UTF-8 and have no reserved character
abbrev pub is_plain : List ℕ → Bool
is_plain bs = is_utf8 bs && not (list_any is_reserved (chars bs))

-- how many bytes the first character takes, or 0 if the bytes begin with no plain character
abbrev pub plain_len : List ℕ → ℕ
plain_len bs =
    if is_plain (take 1 bs) then 1
    else if is_plain (take 2 bs) then 2
    else if is_plain (take 3 bs) then 3
    else if is_plain (take 4 bs) then 4 else 0

-- the text of the bytes, of which the first `left` belong to a character that has begun
abbrev pub text_after : ℕ → List ℕ → List ℕ
text_after left [] = []
text_after zero (b ∷ bs) =
    if plain_len (b ∷ bs) == 0 then encode_utf8 (reserved_char b) ++ text_after 0 bs
    else b ∷ text_after (plain_len (b ∷ bs) - 1) bs
text_after (suc left) (b ∷ bs) = b ∷ text_after left bs

-- The text of the bytes: plain characters as they are, and for each other byte its reserved character.
abbrev pub text_of_bytes : List ℕ → List ℕ
text_of_bytes bs = text_after 0 bs

-- the bytes that the character stands for
abbrev pub bytes_of_char : ℕ → List ℕ
bytes_of_char c = if is_reserved c then (c - 0xE0000) ∷ [] else encode_utf8 c

-- the bytes that the text stands for
abbrev pub bytes_of_text : List ℕ → List ℕ
bytes_of_text text = flat_map bytes_of_char (chars text)

-- the bytes of a side of the file: the selected side if `selected`, or the other one
abbrev pub side_bytes : Bool → File → List ℕ
side_bytes selected file = bytes_of_text (side_text selected file)

-- whether a byte is none of ASCII
abbrev pub has_high : List ℕ → Bool
has_high bs = list_any (λ b. nat_le 128 b) bs

-- whether the bytes have a NUL, as those of files that are no text have
abbrev pub has_nul : List ℕ → Bool
has_nul bs = list_any (λ b. b == 0) bs

-- A text that stands for bytes is made longer by the text of the first `count` bytes of `rest`.
pub record IsPiece (rest old new : List ℕ) (count : ℕ) : Type 0 where
  pub some : 0 < count
  pub within : count ≤ length rest
  pub joined : new ++ text_of_bytes (drop count rest) ≡ old ++ text_of_bytes rest
