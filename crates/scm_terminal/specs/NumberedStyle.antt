-- The style that the field of `NumberedStyle` represents.
use Rattle.std.specs.Prelude.{◌≡◌}
use Rattle.std.proofs.Common.{ap, sym, ℕ}
use Rattle.scm_cells.specs.declared.style.Style.{Style}
use Rattle.scm_terminal.specs.declared.numbered_style.NumberedStyle.TheInside.{Inside}
use Rattle.scm_terminal.specs.Style.{style_code, style_of_code}

-- the style with the number
abbrev pub own_style : Inside → Style
own_style s = style_of_code s.code

-- the number is that of the style
abbrev pub has_own_number : Inside → Type 0
has_own_number s = s.code ≡ style_code (style_of_code s.code)

-- the number of a style
abbrev pub with_number : Style → Inside
with_number style = record { code = style_code style }

-- the field is the number of the style with that number
pub with_number_of : (s : Inside) → has_own_number s → with_number (own_style s) ≡ s
with_number_of s e = ap (λ (n : ℕ). record { code = n }) (sym e)
