-- What becomes of the styles of a row.
use Rattle.std.specs.Prelude.{◌≡◌, ℕ, ◌&&◌, nat_le, nat_lt, true, if◌then◌else◌}
use Rattle.scm_cells.specs.declared.style.Style.{Style}
use Rattle.scm_front_paint.specs.declared.restyling.Effect.{Effect}
use Rattle.scm_front_paint.specs.declared.restyling.Effect.TheVariants.{InSyntax, SetOff, Underlined, InTheme}
use Rattle.scm_front_paint.specs.declared.restyling.Known.{Known}
use Rattle.scm_front_paint.specs.declared.restyling.Restyled.{Restyled}
use Rattle.scm_front_paint.specs.Range.{underlined_if}
use Rattle.scm_front_paint.specs.Syntax.{in_syntax}
use Rattle.scm_front_paint.specs.Themes.{themed}
use Rattle.scm_front_paint.specs.Words.{set_off}

-- what a style becomes by an effect
abbrev pub restyled_by : Effect → Style → Style
restyled_by (InSyntax own) style = in_syntax own style
restyled_by SetOff style = set_off true style
restyled_by Underlined style = underlined_if true style
restyled_by (InTheme theme) style = themed theme style

-- a style becomes what the effect makes of it
abbrev pub IsRestyled : Effect → Restyled → Type 0
IsRestyled effect r = r.to ≡ restyled_by effect r.from

-- so do all that are known
abbrev pub AreRestyled : Effect → Known → Type 0
AreRestyled effect k = IsRestyled effect k.first × IsRestyled effect k.second × IsRestyled effect k.third × IsRestyled effect k.fourth

-- the style at place c, after an effect on the places from..end
abbrev pub style_after : Effect → ℕ → ℕ → ℕ → Style → Style
style_after effect from end c style = if nat_le from c && nat_lt c end then restyled_by effect style else style
