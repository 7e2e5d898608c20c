-- The symbol that a text of a column stands for.
use Rattle.std.specs.Prelude.{ℕ, List, [], ◌∷◌, Option, Some, None}
use Rattle.scm_terminal.specs.declared.cell_text.CellText.{CellText}
use Rattle.scm_terminal.specs.declared.cell_text.CellText.TheVariants.{Nothing, Letter, Symbol}

-- the symbol, if one begins in the column
abbrev pub symbol_of_text : CellText → Option (List ℕ)
symbol_of_text Nothing = None
symbol_of_text (Letter b) = Some (b ∷ [])
symbol_of_text (Symbol s) = Some s.now

-- the byte of a letter
abbrev pub letter_in : CellText → Option ℕ
letter_in Nothing = None
letter_in (Letter b) = Some b
letter_in (Symbol s) = None
