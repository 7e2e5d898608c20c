use Rattle.std.proofs.Common.{rules, sym, length, FitsSigned, w64, ◌+ℤ◌, pos}
use Rattle.std.specs.Prelude.{ℤ}
use Rattle.std.proofs.lemmas.Int.{to_z-of_z}
use Rattle.scm_render.specs.Canvas.{Sight}
use Rattle.scm_render.proofs.StepLemmas.{InRange-fits, left-part, left-more, left-none}
use Rattle.scm_render.proofs.CountLemmas.{counts-more, counts-end}
use Rattle.scm_document.specs.Rows.{ShownFile, shown_file, file_rows}
use Rattle.scm_widgets.specs.Pictures.{IdPicture}
use Rattle.scm_document.specs.Pictures.{mask_row, one_file_picture}
use Rattle.scm_document.proofs.FilesLemmas.{one_file-fits, files_picture-more, files_picture-end}
use Rattle.scm_document.proofs.CountLemmas.{files_counts-more, files_counts-end}
use Rattle.scm_document.proofs.commit_view.draw_files.Goals as goal

abbrev one : ShownFile → ℤ → ℤ → Sight → IdPicture
one f x y s = one_file_picture f s x y

pub draw_file-requires : goal.draw_file-requires
draw_file-requires c =
    let fx : FitsSigned w64 c.args.x = c.ranges.x in
    let v = c.file-item.result in
    let more = rw (sym c.file-item.is) at (files_picture-more c.args.files.now c.loop-file.file-index v c.args.viewport.now.canvas.sight c.args.x c.loop-file.row c.loop-file-test.true) in
    let left = simp (to_z-of_z, c.loop-file.row-is) at c.loop-file.invariant.left in
    let one_in = left-part _ _ (one (shown_file v) c.args.x c.loop-file.row) _ _ _ more left in
    simp (to_z-of_z, c.loop-file.row-is) one_in

pub loop-file-preserved : goal.loop-file-preserved
loop-file-preserved c =
    let fx : FitsSigned w64 c.args.x = c.ranges.x in
    let v = c.file-item.result in
    let more = rw (sym c.file-item.is) at (files_picture-more c.args.files.now c.loop-file.file-index v c.args.viewport.now.canvas.sight c.args.x c.loop-file.row c.loop-file-test.true) in
    let left = simp (to_z-of_z, c.loop-file.row-is) at c.loop-file.invariant.left in
    let one_in = left-part _ _ (one (shown_file v) c.args.x c.loop-file.row) _ _ _ more left in
    let fits : FitsSigned w64 (c.loop-file.row +ℤ pos (length (file_rows (shown_file v)))) = InRange-fits _ (one_file-fits (shown_file v) _ _ _ one_in).end in
    let drawn = simp (to_z-of_z, c.loop-file.row-is) at c.in_ok-row.ensures.draws.ok in
    let row = simp c.loop-file.row-is at c.in_ok-row.ensures.below in
    let count = rw (sym c.file-item.is) at (files_counts-more c.args.files.now c.loop-file.file-index v c.args.viewport.now.canvas.sight.rect (mask_row c.args.viewport.now.canvas.sight) c.loop-file.row c.loop-file-test.true) in
    let so_far = simp (to_z-of_z, c.loop-file.row-is) at c.loop-file.invariant.counts in
    let counted = simp left.sight at (simp (to_z-of_z, c.loop-file.row-is) at c.in_ok-row.ensures.draws.counts) in
    rw row (simp to_z-of_z (record {
      counts = counts-more _ _ _ _ _ _ _ count so_far counted;
      left = left-more _ _ _ (one (shown_file v) c.args.x c.loop-file.row) _ _ _ more left drawn;
    }))

pub returns : goal.returns
returns c =
    let fx : FitsSigned w64 c.args.x = c.ranges.x in
    let fy : FitsSigned w64 c.args.y = c.ranges.y in
    record {
      ok =
          let left = simp (to_z-of_z, c.loop-file.row-is) at c.loop-file.invariant.left in
          left-none _ _ _ _ (files_picture-end c.args.files.now c.loop-file.file-index c.args.viewport.now.canvas.sight c.args.x c.loop-file.row c.loop-file-test.false) left;
      counts =
          let left = simp (to_z-of_z, c.loop-file.row-is) at c.loop-file.invariant.counts in
          counts-end _ _ _ _ (files_counts-end c.args.files.now c.loop-file.file-index c.args.viewport.now.canvas.sight.rect (mask_row c.args.viewport.now.canvas.sight) c.loop-file.row c.loop-file-test.false) left;
      rect = search rules;
      err = search rules;
    }
