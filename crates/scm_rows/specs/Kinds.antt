-- What each row of a section shows, and which row shows a line.
use Rattle.std.specs.Prelude.{ℕ, ◌+◌, ◌-◌, ◌==◌, nat_le, nat_lt, Bool, false, ◌&&◌, if◌then◌else◌, Option, Some, None}
use Rattle.scm_rows.specs.declared.row_kind.RowKind.{RowKind}
use Rattle.scm_rows.specs.declared.row_kind.RowKind.TheVariants.{Header, Line, Mark, Context, Blank}
use Rattle.scm_rows.specs.declared.section_place.SectionPlace.{SectionPlace}
use Rattle.scm_rows.specs.declared.section_shape.SectionShape.{SectionShape}
use Rattle.scm_rows.specs.declared.section_shape.SectionShape.TheVariants as shapes
use Rattle.scm_rows.specs.Context.{dots_height, first_below, lines_above}

-- what row j of n lines of context shows
abbrev pub context_kind : SectionPlace → ℕ → ℕ → RowKind
context_kind p n j =
    let top = lines_above p n + dots_height p n in
    if nat_lt j (lines_above p n) then Context j
    else if nat_le top j && nat_lt (j - top) (n - first_below p n) then Context (first_below p n + (j - top))
    else Blank

-- what row j of a section shows
abbrev pub row_kind : SectionPlace → SectionShape → ℕ → RowKind
row_kind p (shapes.Context n) j = context_kind p n j
row_kind p shapes.Changed j = if j == 0 then Header else Line (j - 1)
row_kind p shapes.Mark j = Mark

-- the line that a row of this kind shows, if it shows one
abbrev pub line_of : RowKind → Option ℕ
line_of Header = None
line_of (Line i) = Some i
line_of Mark = None
line_of (Context i) = Some i
line_of Blank = None

-- whether the option holds n
abbrev pub holds : Option ℕ → ℕ → Bool
holds None n = false
holds (Some m) n = n == m
