use Rattle.std.proofs.Common.{rules, ◌≡◌, ◌∙◌, sym, length, true, false, FitsSigned, w64}
use Rattle.std.proofs.lemmas.Int.{to_z-of_z}
use Rattle.scm_render.proofs.CanvasLemmas.{with_picture-nothing}
use Rattle.scm_render.proofs.CountLemmas.{added-none}
use Rattle.scm_render.proofs.StepLemmas.{InRange-fits}
use Rattle.scm_document.specs.Rows.{shown_file, file_rows}
use Rattle.scm_document.specs.Pictures.{mask_row, is_pinned, pinned_picture}
use Rattle.scm_document.specs.Counts.{pinned_counts}
use Rattle.scm_document.proofs.commit_view.draw_pinned.Goals as goal

pub draw_header-requires : goal.draw_header-requires
unfolding pinned_picture
draw_header-requires c =
    let s = c.args.viewport.now.canvas.sight in
    let ft : FitsSigned w64 (mask_row s) = InRange-fits _ (rw c.mask_row-row.ensures.row at c.mask_row-row.ensures.in_range) in
    let between = rw c.requires.below at (simp (to_z-of_z, c.ranges.x, c.ranges.y, c.ranges.below, ft) at (rw c.mask_row-row.ensures.row at c.is_between.ensures)) in
    let test : is_pinned (mask_row s) c.args.y (length (file_rows (shown_file c.args.file.now))) ≡ true = sym between ∙ c.if-is_between.true in
    rw c.mask_row-row.ensures.row (simp (to_z-of_z, c.ranges.x, c.ranges.y, c.ranges.below, ft) (rw test at c.requires.picture))

pub returns-then-is_between : goal.returns-then-is_between
unfolding pinned_picture pinned_counts
returns-then-is_between c =
    let fx : FitsSigned w64 c.args.x = c.ranges.x in
    let fy : FitsSigned w64 c.args.y = c.ranges.y in
    let s = c.args.viewport.now.canvas.sight in
    let ft : FitsSigned w64 (mask_row s) = InRange-fits _ (rw c.mask_row-row.ensures.row at c.mask_row-row.ensures.in_range) in
    let fb : FitsSigned w64 c.args.below = c.ranges.below in
    let between = rw c.requires.below at (simp to_z-of_z at (rw c.mask_row-row.ensures.row at c.is_between.ensures)) in
    let test : is_pinned (mask_row s) c.args.y (length (file_rows (shown_file c.args.file.now))) ≡ true = sym between ∙ c.if-is_between.true in
    rw test (simp to_z-of_z at (rw c.mask_row-row.ensures.row at c.draw_header.ensures))

pub returns-else-is_between : goal.returns-else-is_between
unfolding pinned_picture pinned_counts
returns-else-is_between c =
    let s = c.args.viewport.now.canvas.sight in
    let ft : FitsSigned w64 (mask_row s) = InRange-fits _ (rw c.mask_row-row.ensures.row at c.mask_row-row.ensures.in_range) in
    let between = rw c.requires.below at (simp (to_z-of_z, c.ranges.y, c.ranges.below, ft) at (rw c.mask_row-row.ensures.row at c.is_between.ensures)) in
    let test : is_pinned (mask_row s) c.args.y (length (file_rows (shown_file c.args.file.now))) ≡ false = sym between ∙ c.if-is_between.false in
    record {
      ok = rw test (sym (with_picture-nothing _));
      counts = rw test (sym (added-none _));
      rect = search rules;
      err = search rules;
    }
