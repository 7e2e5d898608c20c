-- Worked rows: the columns of spans, and the styles there.
use Rattle.std.proofs.Common.{◌≡◌, ℕ, true, List, [], ◌∷◌, ◌++◌, refl, Some}
use Rattle.std.specs.Prelude.{codes}
use Rattle.scm_cells.specs.declared.style.Colour.TheVariants.{Red, Yellow}
use Rattle.scm_cells.specs.declared.style.Style.{Style}
use Rattle.scm_terminal.specs.Style.{plain_style}
use Rattle.scm_front_paint.specs.declared.runs.Run.{Run}
use Rattle.scm_front_paint.specs.declared.syntax.Syntax.TheVariants.{Keyword, Text}
use Rattle.scm_front_paint.specs.Syntax.{border, syntax_style, with_runs}

-- two wide symbols, a blank and a digit
abbrev wide : List ℕ
wide = (230 ∷ (151 ∷ (165 ∷ (230 ∷ (156 ∷ (172 ∷ [])))))) ++ codes " 1"

-- a place at a border of characters stays, and one inside a character or past the end counts as the end
at-border : border wide 3 ≡ 3
at-border = refl

at-end : border wide 8 ≡ 8
at-end = refl

inside : border wide 4 ≡ 8
inside = refl

past : border wide 9 ≡ 8
past = refl

-- a keyword on columns 10 and 11, and a text on columns 11 and 12
abbrev runs : List Run
runs =
    record { columns = record { start = 10; end = 12 }; style = syntax_style Keyword }
    ∷ (record { columns = record { start = 11; end = 13 }; style = syntax_style Text } ∷ [])

-- a removed line, and the same if it is selected
abbrev removed : Style
removed = record plain_style { colour = Some Red }

abbrev selected : Style
selected = record removed { reversed = true }

-- its sign
sign : with_runs runs 8 removed ≡ removed
sign = refl

keyword : with_runs runs 10 removed ≡ record plain_style { bold = true }
keyword = refl

-- the last span counts
both : with_runs runs 11 removed ≡ record plain_style { colour = Some Yellow }
both = refl

after : with_runs runs 13 removed ≡ removed
after = refl

selected-line : with_runs runs 10 selected ≡ selected
selected-line = refl
