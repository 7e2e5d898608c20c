-- The lines that rows of a frame show, on the rows of the screen.
use Rattle.std.specs.Prelude.{ℕ, min, Option, Some, None}
use Rattle.scm_layout_index.specs.declared.line_rows.LineRows.{LineRows}

-- the lines on the first `most` of their rows
abbrev pub first_rows : Option LineRows → ℕ → Option LineRows
first_rows None most = None
first_rows (Some lines) most = Some (record lines { rows = min lines.rows most })
