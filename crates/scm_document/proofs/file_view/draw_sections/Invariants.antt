use Rattle.std.proofs.Common.{◌≡◌, false, length, map}
use Rattle.scm_cells.specs.Rect.{InRange}
use Rattle.scm_cells.specs.Counts.{added}
use Rattle.scm_document.specs.Rows.{shown_of_view, shown_sections}
use Rattle.scm_document.specs.SectionWalk.{sections_left}
use Rattle.scm_document.specs.Pictures.{sections_picture}
use Rattle.scm_document.specs.Counts.{sections_counts}
use Rattle.scm_render.specs.Left.{IsLeft}
use Rattle.scm_document.proofs.file_view.draw_sections.Given as goal

abbrev pub invariant-sections : goal.invariant-sections
invariant-sections l =
    record {
      row : InRange l.row;
      counts : added l.viewport.counts (sections_counts (map shown_of_view (sections_left l.walk)) l.fn.viewport.canvas.sight.rect l.row)
          ≡ added l.fn.viewport.counts (sections_counts (shown_sections false l.views) l.fn.viewport.canvas.sight.rect l.fn.y);
      left : IsLeft l.fn.viewport.canvas l.viewport.canvas
          (sections_picture (map shown_of_view (sections_left l.walk)) l.fn.viewport.canvas.sight l.x l.row)
          (sections_picture (shown_sections false l.views) l.fn.viewport.canvas.sight l.fn.x l.fn.y);
    }

abbrev pub decreases-sections : goal.decreases-sections
decreases-sections l = length (sections_left l.walk)
