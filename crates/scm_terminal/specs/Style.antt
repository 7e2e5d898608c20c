-- Styles as numbers, which compare them, and as SGR sequences of ECMA-48, written and read.
use Rattle.std.specs.Prelude.{ℕ, ◌+◌, ◌*◌, ◌%◌, ◌==◌, List, [], ◌∷◌, ◌++◌, Bool, true, false, if◌then◌else◌, Option, Some, None}
use Rattle.std.specs.Option.{option_and_then}
use Rattle.scm_cells.specs.declared.style.Colour.{Colour}
use Rattle.scm_cells.specs.declared.style.Colour.TheVariants.{Black, Red, Green, Yellow, Blue, Magenta, Cyan, White}
use Rattle.scm_cells.specs.declared.style.Style.{Style}
use Rattle.scm_terminal.specs.Bytes.{has_bit}

-- the number of a colour: 0 for the terminal's own, and otherwise 1 to 8
abbrev pub colour_code : Option Colour → ℕ
colour_code None = 0
colour_code (Some Black) = 1
colour_code (Some Red) = 2
colour_code (Some Green) = 3
colour_code (Some Yellow) = 4
colour_code (Some Blue) = 5
colour_code (Some Magenta) = 6
colour_code (Some Cyan) = 7
colour_code (Some White) = 8

-- 1 for true, 0 for false
abbrev pub bit : Bool → ℕ
bit b = if b then 1 else 0

-- the number of a style: the colour in the lowest four bits, and above it a bit for each attribute
unfoldable pub style_code : Style → ℕ
style_code style =
    colour_code style.colour
    + 16 * (bit style.bold + 2 * (bit style.dim
    + 2 * (bit style.underlined + 2 * bit style.reversed)))

-- the colour with the number `n`, or the terminal's own if no colour has it
abbrev pub colour_of : ℕ → Option Colour
colour_of n =
    if n == 1 then Some Black
    else if n == 2 then Some Red
    else if n == 3 then Some Green
    else if n == 4 then Some Yellow
    else if n == 5 then Some Blue
    else if n == 6 then Some Magenta
    else if n == 7 then Some Cyan
    else if n == 8 then Some White
    else None

-- the style with the number `n`
unfoldable pub style_of_code : ℕ → Style
style_of_code n = record {
  colour = colour_of (n % 16);
  bold = has_bit 16 n;
  dim = has_bit 32 n;
  underlined = has_bit 64 n;
  reversed = has_bit 128 n;
}

-- ---- the bytes that set a style: the SGR parameters of ECMA-48

-- the parameter of a colour with its semicolon, `;30` to `;37`
abbrev pub colour_bytes : Option Colour → List ℕ
colour_bytes None = []
colour_bytes (Some Black) = 59 ∷ (51 ∷ (48 ∷ []))
colour_bytes (Some Red) = 59 ∷ (51 ∷ (49 ∷ []))
colour_bytes (Some Green) = 59 ∷ (51 ∷ (50 ∷ []))
colour_bytes (Some Yellow) = 59 ∷ (51 ∷ (51 ∷ []))
colour_bytes (Some Blue) = 59 ∷ (51 ∷ (52 ∷ []))
colour_bytes (Some Magenta) = 59 ∷ (51 ∷ (53 ∷ []))
colour_bytes (Some Cyan) = 59 ∷ (51 ∷ (54 ∷ []))
colour_bytes (Some White) = 59 ∷ (51 ∷ (55 ∷ []))

-- `text` if `b`, and otherwise nothing
abbrev pub text_if : Bool → List ℕ → List ℕ
text_if b text = if b then text else []

-- the parameters of the attributes: `;1` bold, `;2` dim, `;4` underlined, `;7` reversed
abbrev pub flag_bytes : Style → List ℕ
flag_bytes style =
    text_if style.bold (59 ∷ (49 ∷ []))
    ++ (text_if style.dim (59 ∷ (50 ∷ []))
    ++ (text_if style.underlined (59 ∷ (52 ∷ []))
    ++ text_if style.reversed (59 ∷ (55 ∷ []))))

-- the SGR sequence of a style: `ESC [ 0` resets, then come the attributes, the colour and `m`
unfoldable pub style_bytes : Style → List ℕ
style_bytes style =
    (27 ∷ (91 ∷ (48 ∷ []))) ++ (flag_bytes style ++ (colour_bytes style.colour ++ (109 ∷ [])))

-- ---- the style that SGR parameters set

-- the terminal's own colour, without attributes
abbrev pub plain_style : Style
plain_style =
    record { colour = None; bold = false; dim = false; underlined = false; reversed = false }

-- the style after the SGR parameter `n`; none if `n` is none of the above
abbrev pub with_number : ℕ → Style → Option Style
with_number n style =
    if n == 1 then Some (record style { bold = true })
    else if n == 2 then Some (record style { dim = true })
    else if n == 4 then Some (record style { underlined = true })
    else if n == 7 then Some (record style { reversed = true })
    else if n == 30 then Some (record style { colour = Some Black })
    else if n == 31 then Some (record style { colour = Some Red })
    else if n == 32 then Some (record style { colour = Some Green })
    else if n == 33 then Some (record style { colour = Some Yellow })
    else if n == 34 then Some (record style { colour = Some Blue })
    else if n == 35 then Some (record style { colour = Some Magenta })
    else if n == 36 then Some (record style { colour = Some Cyan })
    else if n == 37 then Some (record style { colour = Some White })
    else None

-- the style that parameters set, the last parameter in front; none if a parameter is unknown, or if
-- no 0 resets the style before
unfoldable pub style_of : List ℕ → Option Style
style_of [] = None
style_of (n ∷ ns) =
    if n == 0 then Some plain_style else option_and_then (with_number n) (style_of ns)
