use Rattle.std.proofs.Common.{◌≡◌}
use Rattle.std.specs.Prelude.{pos, ◌+ℤ◌}
use Rattle.scm_render.specs.Left.{IsLeft}
use Rattle.scm_cells.specs.Counts.{added}
use Rattle.scm_document.specs.Rows.{section_rows}
use Rattle.scm_document.specs.Pictures.{rows_picture}
use Rattle.scm_document.specs.Counts.{rows_counts}
use Rattle.scm_document.proofs.PassLemmas.{rows_among}
use Rattle.scm_document.proofs.section_view.SectionViewComponent.draw.Given as goal

abbrev pub invariant-loop-row : goal.invariant-loop-row
invariant-loop-row l =
    record {
      left : IsLeft l.fn.viewport.canvas l.viewport.canvas
          (rows_picture (rows_among (section_rows l.self) l.row l.end) l.fn.viewport.canvas.sight l.x l.at)
          (rows_picture (rows_among (section_rows l.self) l.first l.end) l.fn.viewport.canvas.sight l.fn.x (l.fn.y +ℤ pos l.first));
      counts : added l.viewport.counts (rows_counts (rows_among (section_rows l.self) l.row l.end) l.fn.viewport.canvas.sight.rect l.at)
          ≡ added l.fn.viewport.counts (rows_counts (rows_among (section_rows l.self) l.first l.end) l.fn.viewport.canvas.sight.rect (l.fn.y +ℤ pos l.first));
    }
