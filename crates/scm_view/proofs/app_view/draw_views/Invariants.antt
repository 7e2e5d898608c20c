use Rattle.std.proofs.Common.{◌≡◌, drop}
use Rattle.scm_render.specs.Left.{IsLeft}
use Rattle.scm_cells.specs.Counts.{added}
use Rattle.scm_view.specs.AppView.{views_picture}
use Rattle.scm_document.specs.ViewColumns.{views_counts}
use Rattle.scm_view.proofs.app_view.draw_views.Given as goal

abbrev pub invariant-loop-view : goal.invariant-loop-view
invariant-loop-view l =
    record {
      left : IsLeft l.fn.viewport.canvas l.viewport.canvas
          (views_picture (drop l.view-index l.views) l.width l.fn.viewport.canvas.sight l.left)
          (views_picture l.views l.width l.fn.viewport.canvas.sight l.fn.x);
      counts : added l.viewport.counts (views_counts (drop l.view-index l.views) l.width l.fn.viewport.canvas.sight l.left)
          ≡ added l.fn.viewport.counts (views_counts l.views l.width l.fn.viewport.canvas.sight l.fn.x);
    }
