-- Where keys take a pager.
use Rattle.std.specs.Prelude.{ℕ, ◌+◌, ◌-◌, ◌/◌, min, max, Bool, true, false, if◌then◌else◌}
use Rattle.scm_types.specs.Split.{same}
use Rattle.scm_pager.specs.declared.keys.Step.{Step as StepKind}
use Rattle.scm_pager.specs.declared.keys.Step.TheVariants.{Down, Up, HalfPageDown, HalfPageUp, PageDown, PageUp, First, Last}
use Rattle.scm_pager.specs.declared.keys.Turn.{Turn as TurnKind}
use Rattle.scm_pager.specs.declared.keys.Turn.TheVariants.{Left, Right}
use Rattle.scm_pager.specs.declared.keys.Deed.{Deed}
use Rattle.scm_pager.specs.declared.keys.Deed.TheVariants.{Step, Turn, Show, Close, Stay}
use Rattle.scm_pager.specs.declared.pager.Pager.{Pager}
use Rattle.scm_pager.specs.Windows.{capped}

-- the rows of a page: those of the screen but for the status row, and at least one
abbrev pub page : ℕ → ℕ
page height = max (height - 1) 1

-- half a page
abbrev pub half : ℕ → ℕ
half rows = (rows + 1) / 2

-- the line on the first row where the last page is shown
abbrev pub last_top : ℕ → ℕ → ℕ
last_top count rows = count - rows

-- the line on the first row after a step, before the end of the file is looked at
abbrev pub row_after : StepKind → ℕ → ℕ → ℕ
row_after Down top rows = capped (top + 1)
row_after Up top rows = top - 1
row_after HalfPageDown top rows = capped (top + half rows)
row_after HalfPageUp top rows = top - half rows
row_after PageDown top rows = capped (top + rows)
row_after PageUp top rows = top - rows
row_after First top rows = 0
row_after Last top rows = 18446744073709551615

-- half a screen of columns, and at least one
abbrev pub half_width : ℕ → ℕ
half_width width = max (width / 2) 1

-- the columns to the left after a step sideways
abbrev pub column_after : TurnKind → ℕ → ℕ → ℕ
column_after Right left width = min (left + half_width width) 65535
column_after Left left width = left - half_width width

-- a pager at the beginning of a side of a file
abbrev pub opened : ℕ → Bool → Pager
opened file selected = record { file = file; top = 0; left = 0; selected = selected; is_open = true }

-- a pager that is closed
abbrev pub closed : Pager → Pager
closed p = record p { is_open = false }

-- the pager after a deed, on a screen of `width` columns and `height` rows, if the side has `count` lines
abbrev pub moved : Pager → Deed → ℕ → ℕ → ℕ → Pager
moved p (Step step) count width height = record p { top = min (row_after step p.top (page height)) (last_top count (page height)) }
moved p (Turn turn) count width height = record p { left = column_after turn p.left width }
moved p (Show selected) count width height = if same selected p.selected then closed p else opened p.file selected
moved p Close count width height = closed p
moved p Stay count width height = p
