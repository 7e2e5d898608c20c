-- The commands that a terminal reads in bytes, by ECMA-48. An escape begins a control sequence; the
-- bytes between two control sequences are text.
use Rattle.std.specs.Prelude.{ℕ, ◌+◌, ◌-◌, ◌*◌, ◌==◌, true, false, ◌&&◌, List, [], ◌∷◌, ◌++◌, if◌then◌else◌, map, Option, Some, None, option_map}
use Rattle.scm_cells.specs.Cluster.{is_printable}
use Rattle.scm_cells.specs.Clusters.{visible_width}
use Rattle.scm_terminal.specs.Bytes.{is_digit}
use Rattle.scm_terminal.specs.Style.{style_of}
use Rattle.scm_terminal.specs.Terminal.{Command, MoveTo, SetStyle, Put, SetWrap}

-- ---- text

-- the command of a byte of printable ASCII: a symbol of one column
abbrev pub put_byte : ℕ → Command
put_byte b = Put (b ∷ []) 1

-- The commands of a text. In printable ASCII each byte is a symbol. Any other text is one symbol,
-- if its cluster has a width: commands that are `AreApart` write no other text.
unfoldable pub text_commands : List ℕ → Option (List Command)
text_commands text =
    if is_printable text then Some (map put_byte text)
    else option_map (λ columns. Put text columns ∷ []) (visible_width text)

-- ---- a control sequence

-- the commands of two parts, if both parts are read
abbrev pub commands_of_both : Option (List Command) → Option (List Command) → Option (List Command)
commands_of_both None others = None
commands_of_both (Some commands) None = None
commands_of_both (Some commands) (Some others) = Some (commands ++ others)

-- the parameters of a control sequence, the last in front, after one more digit
abbrev pub with_digit : List ℕ → ℕ → List ℕ
with_digit [] digit = digit ∷ []
with_digit (n ∷ ns) digit = (n * 10 + digit) ∷ ns

-- the move with these parameters, the column in front of the row, both counted from 1
abbrev pub move_of : List ℕ → Option Command
move_of [] = None
move_of (column ∷ []) = None
move_of (column ∷ (row ∷ [])) = Some (MoveTo (row - 1) (column - 1))
move_of (column ∷ (row ∷ (n ∷ ns))) = None

-- the command of the final byte `last` with its parameters: `H` is a move, `m` a style
abbrev pub command_of : ℕ → List ℕ → Option Command
command_of last numbers =
    if last == 72 then move_of numbers
    else if last == 109 then option_map SetStyle (style_of numbers)
    else None

-- the commands of bytes after `ESC [`: parameters between semicolons, a final byte, and text
abbrev pub sequence_commands : List ℕ → List ℕ → Option (List Command)
sequence_commands numbers [] = None
sequence_commands numbers (b ∷ bs) =
    if is_digit b then sequence_commands (with_digit numbers (b - 48)) bs
    else if b == 59 then sequence_commands (0 ∷ numbers) bs
    else commands_of_both
    (option_map (λ command. command ∷ []) (command_of b numbers)) (text_commands bs)

-- the commands of bytes after `ESC [ ?`: `7h` wraps and `7l` does not, then text
abbrev pub mode_commands : List ℕ → Option (List Command)
mode_commands [] = None
mode_commands (n ∷ []) = None
mode_commands (n ∷ (b ∷ bs)) =
    if (n == 55) && (b == 104) then
    commands_of_both (Some (SetWrap true ∷ [])) (text_commands bs)
    else if (n == 55) && (b == 108) then
    commands_of_both (Some (SetWrap false ∷ [])) (text_commands bs)
    else None

-- the commands of bytes after `ESC [`
abbrev pub control_commands : List ℕ → Option (List Command)
control_commands [] = None
control_commands (b ∷ bs) =
    if b == 63 then mode_commands bs else sequence_commands (0 ∷ []) (b ∷ bs)

-- the commands of a part, the bytes from an escape to the next: each sequence begins with a `[`
abbrev pub part_commands : List ℕ → Option (List Command)
part_commands [] = None
part_commands (b ∷ bs) = if b == 91 then control_commands bs else None

-- ---- all bytes

-- bytes, cut at their escapes
pub record Parts : Type 0 where
  -- the bytes before the first escape
  pub text : List ℕ
  -- the bytes after each escape, up to the next
  pub behind : List (List ℕ)

-- `parts` with the byte `b` in front
abbrev pub with_byte : ℕ → Parts → Parts
with_byte b parts =
    if b == 27 then record { text = []; behind = parts.text ∷ parts.behind }
    else record { text = b ∷ parts.text; behind = parts.behind }

-- the parts of bytes
unfoldable pub parts_of : List ℕ → Parts
parts_of [] = record { text = []; behind = [] }
parts_of (b ∷ bs) = with_byte b (parts_of bs)

-- the commands of all parts, if all are read
abbrev pub all_part_commands : List (List ℕ) → Option (List Command)
all_part_commands [] = Some []
all_part_commands (part ∷ parts) = commands_of_both (part_commands part) (all_part_commands parts)

-- the commands that a terminal reads in bytes, or none if the bytes have anything else
unfoldable pub read_commands : List ℕ → Option (List Command)
read_commands bytes =
    commands_of_both
    (text_commands (parts_of bytes).text) (all_part_commands (parts_of bytes).behind)
