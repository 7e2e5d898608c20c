-- Laws of rows in an area.
use Rattle.std.specs.Prelude.{◌≡◌, ℕ, ◌<◌, ◌≤◌}
use Rattle.scm_render.specs.Canvas.{Row}
use Rattle.scm_widgets.specs.declared.ids.ComponentId.{ComponentId}
use Rattle.scm_widgets.specs.Blanks.{blank_strip}
use Rattle.scm_widgets.specs.Layers.{Strip}
use Rattle.scm_document.specs.Strips.{message_strip, no_files_strip, row_strip}
use Rattle.scm_strips.specs.Shows.{AreaRow, FileRow, MessageRow, MarginRow, WordsRow, shows, whole}
use Rattle.scm_strips.specs.AreaStrips.{area_strip}

-- the strip of a row of a document on w columns
abbrev pub strip_of : ℕ → AreaRow → Strip ComponentId
strip_of w (FileRow d) = row_strip w d
strip_of w (MessageRow k message) = message_strip w k message
strip_of w MarginRow = blank_strip 0 w
strip_of w WordsRow = no_files_strip w

-- on all of w columns, a row shows what its strip shows
abbrev pub RowsShowStrips : Type 0
RowsShowStrips = (w : ℕ) (d : AreaRow) (row : Row) → 3 ≤ w → shows (whole w) d row ≡ (strip_of w d).shows row

-- on all of w columns, the owner of a column is that of the row's strip
abbrev pub RowsOwnStrips : Type 0
RowsOwnStrips = (w x : ℕ) (d : AreaRow) → 3 ≤ w → x < w → (area_strip (whole w) d).owner x ≡ (strip_of w d).owner x
