-- The texts of checkboxes and buttons.
use Rattle.std.specs.Prelude.{ℕ, List, ◌++◌, Bool, if◌then◌else◌, codes, encode_utf8}
use Rattle.scm_types.specs.declared.tristate.Tristate.{Tristate}
use Rattle.scm_types.specs.declared.tristate.Tristate.TheVariants.{False, Partial, True}
use Rattle.scm_widgets.specs.declared.tristate_box.TristateIconStyle.{TristateIconStyle}
use Rattle.scm_widgets.specs.declared.tristate_box.TristateIconStyle.TheVariants.{Check, Expand}
use Rattle.scm_widgets.specs.declared.tristate_box.TristateBox.{TristateBox}
use Rattle.scm_widgets.specs.declared.button.Button.{Button}

-- ---- boxes and buttons

-- the symbol of a box: a space, half circle or disk in a checkbox; a plus, plus-minus or minus in a fold box
abbrev pub icon_text : Bool → TristateIconStyle → Tristate → List ℕ
icon_text unicode Check False = codes " "
icon_text unicode Check Partial = if unicode then encode_utf8 0x25D0 else codes "~"
icon_text unicode Check True = if unicode then encode_utf8 0x25CF else codes "*"
icon_text unicode Expand False = codes "+"
icon_text unicode Expand Partial = if unicode then encode_utf8 0xB1 else codes "~"
icon_text unicode Expand True = codes "-"

-- a text in brackets: pointed if it is read-only, else round if it is focused, else square
abbrev pub bracketed : Bool → Bool → List ℕ → List ℕ
bracketed read_only focused text =
    if read_only then codes "<" ++ (text ++ codes ">")
    else if focused then codes "(" ++ (text ++ codes ")")
    else codes "[" ++ (text ++ codes "]")

-- the text of box b, with its brackets
abbrev pub box_text : {K : Type 0} → TristateBox K → List ℕ
box_text b = bracketed b.is_read_only b.is_focused (icon_text b.use_unicode b.icon_style b.tristate)

-- the text of button b, with its brackets
abbrev pub button_text : {K : Type 0} → Button K → List ℕ
button_text b = if b.is_focused then codes "(" ++ (b.label ++ codes ")") else codes "[" ++ (b.label ++ codes "]")
