-- Themes: what becomes of a style when it is painted.
use Rattle.std.specs.Prelude.{Bool, true, false, not, ◌&&◌, ◌||◌, Option, Some, None, option_map}
use Rattle.std.specs.Option.{is_some}
use Rattle.scm_cells.specs.declared.style.Colour.{Colour}
use Rattle.scm_cells.specs.declared.style.Colour.TheVariants.{Black, Red, Green, Yellow, Blue, Magenta, Cyan, White}
use Rattle.scm_cells.specs.declared.style.Style.{Style}
use Rattle.scm_front_paint.specs.declared.themes.Theme.{Theme}
use Rattle.scm_front_paint.specs.declared.themes.Theme.TheVariants.{Dark, Light, Sixteen, NoColours}

-- on a light background: pale colours become dark ones, and so that blue stays a colour of its own, it becomes magenta
abbrev pub on_light : Colour → Colour
on_light Black = Black
on_light Red = Red
on_light Green = Blue
on_light Yellow = Magenta
on_light Blue = Magenta
on_light Magenta = Magenta
on_light Cyan = Blue
on_light White = Black

-- on a dark background: blue becomes cyan
abbrev pub on_dark : Colour → Colour
on_dark Black = Black
on_dark Red = Red
on_dark Green = Green
on_dark Yellow = Yellow
on_dark Blue = Cyan
on_dark Magenta = Magenta
on_dark Cyan = Cyan
on_dark White = White

-- whether a colour is too dark on a dark background, unless it is the bright one, for which terminals take bold
abbrev pub is_dull : Option Colour → Bool
is_dull None = false
is_dull (Some Black) = false
is_dull (Some Red) = true
is_dull (Some Green) = false
is_dull (Some Yellow) = false
is_dull (Some Blue) = false
is_dull (Some Magenta) = true
is_dull (Some Cyan) = false
is_dull (Some White) = false

-- The table of themes. `Dark` has light colours. `Light` has dark colours, none of which is bold, for which terminals take the bright one, and
-- nothing is dim. With `Sixteen` colours each colour is the light and bright one. Without colours the attributes alone remain, but dim, which is a colour on some terminals.
abbrev pub themed : Theme → Style → Style
themed Dark style = record style { colour = option_map on_dark style.colour; bold = style.bold || is_dull style.colour }
themed Light style =
    record style { colour = option_map on_light style.colour; bold = style.bold && not (is_some style.colour); dim = false }
themed Sixteen style = record style { colour = option_map on_dark style.colour; bold = style.bold || is_some style.colour }
themed NoColours style = record style { colour = None; dim = false }
