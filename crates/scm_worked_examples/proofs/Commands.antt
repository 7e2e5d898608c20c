-- The bytes that are sent to a terminal, read as commands, computed from the definitions.
use Rattle.std.proofs.Common.{◌≡◌, ℕ, ◌++◌, ◌∷◌, [], List, Some, None, refl, codes}
use Rattle.unicode_width.proofs.Computing.{unicode_width}
use Rattle.scm_cells.specs.Clusters.{has_control, visible_width}
use Rattle.scm_terminal.specs.Reading.{parts_of, read_commands, text_commands}
use Rattle.scm_terminal.specs.Style.{plain_style, style_of}
use Rattle.scm_terminal.specs.Terminal.{MoveTo, SetStyle, Put}

unfoldable reading : Unit {0}
unfolding read_commands parts_of text_commands style_of visible_width has_control unicode_width
reading = tt

-- a symbol of two columns
abbrev wide : List ℕ
wide = 0xE6 ∷ (0x97 ∷ (0xA5 ∷ []))

abbrev move : List ℕ
move = 27 ∷ codes "[1;2H"

-- a byte and a wide symbol, with a move between them
wide_symbol : read_commands ((27 ∷ codes "[1;1H") ++ ((27 ∷ codes "[0ma") ++ (move ++ wide)))
    ≡ Some (MoveTo 0 0 ∷ (SetStyle plain_style ∷ (Put (97 ∷ []) 1 ∷ (MoveTo 0 1 ∷ (Put wide 2 ∷ [])))))
unfolding reading
wide_symbol = refl

-- without the move they are read as one symbol of three columns
no_move : read_commands (97 ∷ wide) ≡ Some (Put (97 ∷ wide) 3 ∷ [])
unfolding reading
no_move = refl

-- a control character of two bytes, U+009B, is not read
no_control : read_commands (move ++ (0xC2 ∷ (0x9B ∷ []))) ≡ None
unfolding reading
no_control = refl
