use Rattle.std.proofs.Common.{rules, ap, FitsSigned, w64}
use Rattle.std.specs.Prelude.{◌+ℤ◌}
use Rattle.std.proofs.lemmas.Int.{to_z-of_z}
use Rattle.scm_document.specs.Pictures.{no_files_place, no_files_picture}
use Rattle.scm_document.proofs.FilesLemmas.{place-fits}
use Rattle.scm_render.proofs.StepLemmas.{text-place, InRange-fits}
use Rattle.scm_document.proofs.CountLemmas.{on_row-then}
use Rattle.scm_document.proofs.no_files.draw_no_files.Goals as goal

pub overflow_add-x : goal.overflow_add-x
unfolding no_files_picture
overflow_add-x c =
    let at_x : FitsSigned w64 (no_files_place c.args.viewport.now.canvas.sight).x = (place-fits c.args.viewport.now.canvas.sight).0 in
    rw c.no_files_place-place.ensures (simp (to_z-of_z, c.ranges.x, at_x) (InRange-fits _ (text-place _ _ _ _ c.requires).0))

pub overflow_add-row : goal.overflow_add-row
unfolding no_files_picture
overflow_add-row c =
    let at_y : FitsSigned w64 (no_files_place c.args.viewport.now.canvas.sight).y = (place-fits c.args.viewport.now.canvas.sight).1 in
    rw c.no_files_place-place.ensures (simp (to_z-of_z, c.ranges.y, at_y) (InRange-fits _ (text-place _ _ _ _ c.requires).1))

pub show_text-requires : goal.show_text-requires
unfolding no_files_picture
show_text-requires c =
    let s = c.args.viewport.now.canvas.sight in
    let at_x : FitsSigned w64 (no_files_place s).x = (place-fits s).0 in
    let at_y : FitsSigned w64 (no_files_place s).y = (place-fits s).1 in
    let column : FitsSigned w64 (c.args.x +ℤ (no_files_place s).x) = InRange-fits _ (text-place _ _ _ _ c.requires).0 in
    let row : FitsSigned w64 (c.args.y +ℤ (no_files_place s).y) = InRange-fits _ (text-place _ _ _ _ c.requires).1 in
    rw (c.no_files_place-place.ensures, c.no_files_text.ensures, c.begin_row.ensures.canvas) (simp (to_z-of_z, c.ranges.x, c.ranges.y, at_x, at_y, column, row) c.requires)

pub returns : goal.returns
unfolding no_files_picture
returns c =
    let fx : FitsSigned w64 c.args.x = c.ranges.x in
    let fy : FitsSigned w64 c.args.y = c.ranges.y in
    let s = c.args.viewport.now.canvas.sight in
    let place = c.no_files_place-place.ensures in
    let at_x : FitsSigned w64 (no_files_place s).x = (place-fits s).0 in
    let at_y : FitsSigned w64 (no_files_place s).y = (place-fits s).1 in
    let column : FitsSigned w64 (c.args.x +ℤ (no_files_place s).x) = InRange-fits _ (text-place _ _ _ _ c.requires).0 in
    let row : FitsSigned w64 (c.args.y +ℤ (no_files_place s).y) = InRange-fits _ (text-place _ _ _ _ c.requires).1 in
    let began = simp to_z-of_z at (rw place at c.begin_row.ensures.counts) in
    let text = simp to_z-of_z at (rw place at c.in_ok-show_text.ensures.counts) in
    record {
      ok = simp to_z-of_z at (rw (place, c.no_files_text.ensures, c.begin_row.ensures.canvas) at c.in_ok-show_text.ensures.ok);
      counts = on_row-then _ _ _ _ _ _ _ _ (ap (λ v. v.sight.rect) c.begin_row.ensures.canvas) began text;
      rect = search rules;
      err = search rules;
    }
