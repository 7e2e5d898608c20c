-- The screen of a window.
use Rattle.std.specs.Prelude.{ℕ, min}
use Rattle.scm_input.specs.declared.inputs.TerminalKind.{TerminalKind}
use Rattle.scm_input.specs.declared.inputs.TerminalKind.TheVariants.{Testing}

-- The screen of a window of `width` columns and `height` rows. Of a larger window it has 1,000 columns and 1,000 rows.
abbrev pub screen_of : ℕ → ℕ → TerminalKind
screen_of width height = Testing (min width 1000) (min height 1000)
