-- The bytes that terminals send for each row of the key table: xterm's, as tmux sends them.
use Rattle.std.specs.Prelude.{◌≡◌, ℕ, List, [], ◌∷◌, codes}
use Rattle.std.specs.List.{AllZip}
use Rattle.scm_input.specs.KeyTable.{KeyRow, key_table}
use Rattle.scm_input.specs.declared.terminal.KeyEventKind.TheVariants.{Press}
use Rattle.scm_input.specs.declared.terminal.TerminalEvent.TheVariants as terminal
use Rattle.scm_terminal.specs.Silences.{at_first, burst_events}

-- the bytes with a silence after them are the key of the row, and nothing else
abbrev pub IsTyped : KeyRow → List ℕ → Type 0
IsTyped row bytes =
    burst_events at_first (bytes ∷ [])
    ≡ terminal.Key (record { code = row.code; modifiers = row.modifiers; kind = Press }) ∷ []

-- the bytes of each row, in the order of the table
abbrev pub key_bytes : List (List ℕ)
key_bytes =
    codes "q"
    ∷ (27 ∷ [])
    ∷ (3 ∷ [])
    ∷ codes "c"
    ∷ codes "?"
    ∷ (27 ∷ codes "[1;5A")
    ∷ (25 ∷ [])
    ∷ (27 ∷ codes "[1;5B")
    ∷ (5 ∷ [])
    ∷ (27 ∷ codes "[5;5~")
    ∷ (2 ∷ [])
    ∷ (27 ∷ codes "[6;5~")
    ∷ (6 ∷ [])
    ∷ (27 ∷ codes "[A")
    ∷ codes "k"
    ∷ (27 ∷ codes "[B")
    ∷ codes "j"
    ∷ (27 ∷ codes "[5~")
    ∷ (27 ∷ codes "[6~")
    ∷ (27 ∷ codes "[1;2D")
    ∷ codes "H"
    ∷ (27 ∷ codes "[D")
    ∷ codes "h"
    ∷ (27 ∷ codes "[C")
    ∷ (27 ∷ codes "[1;2C")
    ∷ codes "l"
    ∷ codes "L"
    ∷ (21 ∷ [])
    ∷ (4 ∷ [])
    ∷ codes " "
    ∷ (13 ∷ [])
    ∷ codes "a"
    ∷ codes "A"
    ∷ codes "f"
    ∷ codes "F"
    ∷ codes "e"
    ∷ []

-- terminals can type each row of the key table
abbrev pub AreTyped : Type 0
AreTyped = AllZip IsTyped key_table key_bytes
