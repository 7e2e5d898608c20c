use Rattle.std.proofs.Common.{◌≡◌, drop, map}
use Rattle.scm_cells.specs.Counts.{added}
use Rattle.scm_document.specs.Rows.{shown_file}
use Rattle.scm_document.specs.Pictures.{mask_row, files_picture}
use Rattle.scm_document.specs.Counts.{files_counts}
use Rattle.scm_render.specs.Left.{IsLeft}
use Rattle.scm_document.proofs.commit_view.draw_files.Given as goal

abbrev pub invariant-loop-file : goal.invariant-loop-file
invariant-loop-file l =
    record {
      counts : added l.viewport.counts (files_counts (map shown_file (drop l.file-index l.files)) l.fn.viewport.canvas.sight.rect (mask_row l.fn.viewport.canvas.sight) l.row)
          ≡ added l.fn.viewport.counts (files_counts (map shown_file l.files) l.fn.viewport.canvas.sight.rect (mask_row l.fn.viewport.canvas.sight) l.fn.y);
      left : IsLeft l.fn.viewport.canvas l.viewport.canvas
          (files_picture (map shown_file (drop l.file-index l.files)) l.fn.viewport.canvas.sight l.x l.row)
          (files_picture (map shown_file l.files) l.fn.viewport.canvas.sight l.fn.x l.fn.y);
    }
