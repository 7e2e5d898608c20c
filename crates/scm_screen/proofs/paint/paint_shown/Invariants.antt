use Rattle.std.proofs.Common.{◌≡◌, ◌+◌, ◌-◌, ◌≤◌, ◌++◌, ℕ, take, drop}
use Rattle.scm_render.specs.Canvas.{Row}
use Rattle.scm_strips.specs.Painted.{IsSized}
use Rattle.scm_view.specs.Window.{inline_document}
use Rattle.scm_screen.specs.DocumentRows.{AreFew, each_row, row_shown, with_shown}
use Rattle.scm_screen.proofs.paint.paint_shown.Given as goal

-- the rows so far are painted
abbrev pub invariant-loop-row : goal.invariant-loop-row
invariant-loop-row l =
    let paint = λ (z : ℕ) (line : Row). with_shown l.area (row_shown (inline_document l.shown) z) line in
    record {
      size : IsSized l.fn.grid l.grid;
      rows : take l.row l.grid.rows ++ each_row paint (l.scroll + l.row) (drop l.row l.grid.rows) ≡ take l.first l.fn.grid.rows ++ each_row paint (l.scroll + l.first) (drop l.first l.fn.grid.rows);
      begun : l.first ≤ l.row;
      few : AreFew (l.row - l.first) l.fn.grid.counts l.grid.counts;
    }
