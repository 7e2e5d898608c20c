-- A screen of 3 by 2, computed from the definitions: what it showed is not known, a byte and a wide symbol are written on the first
-- row, and the second is left out. And bytes, read as commands.
use Rattle.std.proofs.Common.{◌≡◌, ℕ, true, false, List, [], ◌∷◌, ◌++◌, codes, refl, arith, Some, None}
use Rattle.scm_cells.specs.declared.style.Colour.TheVariants.{Red, Green}
use Rattle.scm_cells.specs.declared.style.Style.{Style}
use Rattle.scm_terminal.specs.StyledCell.{StyledCell, First, Later}
use Rattle.scm_terminal.specs.Reading.{parts_of, read_commands, text_commands}
use Rattle.scm_terminal.specs.Style.{style_code, style_of}
use Rattle.scm_terminal.specs.Terminal.{Spot, Symbol, AreApart, MoveTo, SetStyle, Put, SetWrap, over, put, after, after_all}
use Rattle.scm_terminal.specs.Painting.{Line, pass_commands, row_commands, painting, paint_commands}

abbrev plain : Style
plain = record { colour = None; bold = false; dim = false; underlined = false; reversed = false }

abbrev red : Style
red = record { colour = Some Red; bold = true; dim = false; underlined = false; reversed = false }

abbrev wide : List ℕ
wide = 0xE6 ∷ (0x97 ∷ (0xA5 ∷ []))

abbrev first : List StyledCell
first = First (97 ∷ []) plain ∷ (First wide red ∷ (Later ∷ []))

abbrev second : List StyledCell
second = First (98 ∷ []) red ∷ (First (99 ∷ []) red ∷ (First (100 ∷ []) plain ∷ []))

abbrev lines : List Line
lines = record { cells = first; is_changed = true } ∷ (record { cells = second; is_changed = false } ∷ [])

abbrev known_row : List Spot
known_row = Some (First (98 ∷ []) red) ∷ (Some (First (99 ∷ []) red) ∷ (Some (First (100 ∷ []) plain) ∷ []))

-- the later column is blanked, the symbol of more bytes put, and then that of one byte
written : painting 0 lines
    ≡ MoveTo 0 2 ∷ (SetStyle plain ∷ (Put (32 ∷ []) 1 ∷ (MoveTo 0 1 ∷ (SetStyle red ∷ (Put wide 2 ∷ (MoveTo 0 0 ∷ (SetStyle plain ∷ (Put (97 ∷ []) 1 ∷ []))))))))
unfolding painting row_commands pass_commands style_code
written = refl

-- no symbol wraps meanwhile
around : paint_commands lines ≡ SetWrap false ∷ (painting 0 lines ++ (SetWrap true ∷ []))
unfolding paint_commands
around = refl

-- on a row that began within a symbol, and with one that goes on past its end
shown : after_all (painting 0 lines) (record { width = 3; rows = (Some Later ∷ (None ∷ (Some Later ∷ []))) ∷ (known_row ∷ []); cursor = None; style = None })
    ≡ Some (record {
      width = 3;
      rows = (Some (First (97 ∷ []) plain) ∷ (Some (First wide red) ∷ (Some Later ∷ []))) ∷ (known_row ∷ []);
      cursor = Some (0, 1);
      style = Some plain;
    })
unfolding painting row_commands pass_commands style_code over put after after_all
shown = refl

-- a wide symbol that is covered by half leaves a column of which nothing is known, and one that has no room is not put
cut : after_all (MoveTo 0 1 ∷ (SetStyle plain ∷ (Put (97 ∷ []) 1 ∷ []))) (record { width = 3; rows = (Some (First (97 ∷ []) red) ∷ (Some (First wide red) ∷ (Some Later ∷ []))) ∷ []; cursor = None; style = None })
    ≡ Some (record { width = 3; rows = (Some (First (97 ∷ []) red) ∷ (Some (First (97 ∷ []) plain) ∷ (None ∷ []))) ∷ []; cursor = Some (0, 2); style = Some plain })
unfolding over put after after_all
cut = refl

-- and so does one whose later column is covered, and nothing before it
covered : after_all (MoveTo 0 2 ∷ (SetStyle plain ∷ (Put (97 ∷ []) 1 ∷ []))) (record { width = 3; rows = (Some (First (97 ∷ []) red) ∷ (Some (First wide red) ∷ (Some Later ∷ []))) ∷ []; cursor = None; style = None })
    ≡ Some (record { width = 3; rows = (Some (First (97 ∷ []) red) ∷ (None ∷ (Some (First (97 ∷ []) plain) ∷ []))) ∷ []; cursor = None; style = Some plain })
unfolding over put after after_all
covered = refl

no_room : after_all (MoveTo 0 2 ∷ (SetStyle plain ∷ (Put wide 2 ∷ []))) (record { width = 3; rows = (None ∷ (None ∷ (None ∷ []))) ∷ []; cursor = None; style = None }) ≡ None
unfolding over put after after_all
no_room = refl

-- ---- bytes, read as commands

unfoldable reading : Unit {0}
unfolding read_commands parts_of text_commands style_of
reading = tt

abbrev green : Style
green = record { colour = Some Green; bold = true; dim = false; underlined = true; reversed = false }

-- a move, a style and two symbols of a byte each
read : read_commands ((27 ∷ codes "[2;13H") ++ ((27 ∷ codes "[0;1;4;32m") ++ codes "ab"))
    ≡ Some (MoveTo 1 12 ∷ (SetStyle green ∷ (Put (97 ∷ []) 1 ∷ (Put (98 ∷ []) 1 ∷ []))))
unfolding reading
read = refl

-- whether symbols wrap
modes : read_commands ((27 ∷ codes "[?7l") ++ (27 ∷ codes "[?7h")) ≡ Some (SetWrap false ∷ (SetWrap true ∷ []))
unfolding reading
modes = refl

no_mode : read_commands (27 ∷ codes "[?25l") ≡ None
unfolding reading
no_mode = refl

-- nothing else is read: a title, the screen cleared, a style that does not reset the one before, a style that has no meaning here, an
-- escape alone, a command without its last byte
no_title : read_commands ((27 ∷ codes "]0;title") ++ (7 ∷ [])) ≡ None
unfolding reading
no_title = refl

no_clearing : read_commands (27 ∷ codes "[2J") ≡ None
unfolding reading
no_clearing = refl

no_reset : read_commands (27 ∷ codes "[1m") ≡ None
unfolding reading
no_reset = refl

no_blinking : read_commands (27 ∷ codes "[0;5m") ≡ None
unfolding reading
no_blinking = refl

no_escape : read_commands (97 ∷ (27 ∷ [])) ≡ None
unfolding reading
no_escape = refl

no_end : read_commands (27 ∷ codes "[2;13") ≡ None
unfolding reading
no_end = refl

-- between a byte and a wide symbol, and behind that, the cursor is moved; without the move the two are not apart
apart : AreApart Symbol (MoveTo 0 0 ∷ (SetStyle plain ∷ (Put (97 ∷ []) 1 ∷ (MoveTo 0 1 ∷ (SetStyle red ∷ (Put wide 2 ∷ []))))))
apart = (tt, (tt, tt))

not_apart : AreApart Symbol (MoveTo 0 0 ∷ (SetStyle plain ∷ (Put (97 ∷ []) 1 ∷ (SetStyle red ∷ (Put wide 2 ∷ []))))) → ⊥
not_apart h = omega (arith, h.1.0)
