use Rattle.std.proofs.Common.{rules, ◌∙◌, refl, [], sym, ap, false, List, FitsSigned, w64, arith}
use Rattle.std.specs.Prelude.{ℤ, pos, ◌+ℤ◌}
use Rattle.std.proofs.lemmas.Int.{to_z-of_z}
use Rattle.scm_cells.specs.Rect.{InRange}
use Rattle.scm_cells.proofs.RectLemmas.{places}
use Rattle.scm_render.specs.Canvas.{Sight, with_picture}
use Rattle.scm_render.proofs.PictureLemmas.{PictureInRange-left, PictureInRange-part}
use Rattle.scm_cells.specs.Counts.{added, plus}
use Rattle.scm_document.specs.Counts.{file_counts, header_counts, sections_counts}
use Rattle.scm_document.specs.Rows.{ShownSection, shown_file, shown_sections}
use Rattle.scm_widgets.specs.Pictures.{IdPicture}
use Rattle.scm_document.specs.Pictures.{row_picture, header_picture, sections_picture, shown_file_picture, file_picture}
use Rattle.scm_render.proofs.StepLemmas.{rest, InRange-fits}
use Rattle.scm_document.proofs.HeadingLemmas.{heading-rect}
use Rattle.scm_document.proofs.RowsLemmas.{row-end, followed-nothing}
use Rattle.scm_document.proofs.CallLemmas.{after}
use Rattle.scm_document.proofs.CountLemmas.{plus-none, sections_counts-none}
use Rattle.scm_document.proofs.file_view.FileViewComponent.draw.Goals as goal

two-more : (z : ℤ) → InRange z → FitsSigned w64 (z +ℤ pos 2)
two-more z r = omega (arith, places)

abbrev below : List ShownSection → ℤ → ℤ → Sight → IdPicture
below ps x y s = sections_picture ps s (x +ℤ pos 2) (y +ℤ pos 1)

pub draw_part-requires : goal.draw_part-requires
unfolding file_picture shown_file_picture shown_file row_picture header_picture
draw_part-requires c =
    rw (c.header-header.ensures.key, c.header-header.ensures.heading) (simp (to_z-of_z, c.ranges.x, c.ranges.y) (PictureInRange-left _ _ c.requires))

pub overflow_add-x : goal.overflow_add-x
unfolding file_picture shown_file_picture shown_file row_picture
overflow_add-x c =
    simp (to_z-of_z, c.ranges.x) (two-more _ (heading-rect _ _ _ _ (PictureInRange-part _ _ (PictureInRange-left _ _ c.requires))).x)

pub overflow_add-y : goal.overflow_add-y
unfolding file_picture shown_file_picture
overflow_add-y c =
    simp (to_z-of_z, c.ranges.y) (InRange-fits _ (row-end _ _ _ _ (PictureInRange-left _ _ c.requires)))

pub draw_sections-requires-clause-y : goal.draw_sections-requires-clause-y
unfolding file_picture shown_file_picture
draw_sections-requires-clause-y c =
    let next : InRange (c.args.y +ℤ pos 1) = row-end _ _ _ _ (PictureInRange-left _ _ c.requires) in
    let fits : FitsSigned w64 (c.args.y +ℤ pos 1) = InRange-fits _ next in
    simp (to_z-of_z, c.ranges.y, fits) next

pub draw_sections-requires-clause-picture : goal.draw_sections-requires-clause-picture
unfolding file_picture shown_file_picture shown_file row_picture header_picture
draw_sections-requires-clause-picture c =
    let shown = sym c.is_open.ensures ∙ c.if-is_open.true in
    let all = rw shown at c.requires in
    let wide : FitsSigned w64 (c.args.x +ℤ pos 2) = two-more _ (heading-rect _ _ _ _ (PictureInRange-part _ _ (PictureInRange-left _ _ all))).x in
    let fits : FitsSigned w64 (c.args.y +ℤ pos 1) = InRange-fits _ (heading-rect _ _ _ _ (PictureInRange-part _ _ (PictureInRange-left _ _ all))).end_y in
    let header = rw (c.header-header.ensures.key, c.header-header.ensures.heading) at (simp (to_z-of_z, c.ranges.x, c.ranges.y, wide, fits) at c.in_ok-draw_part.ensures.ok) in
    rw c.as_slice.ensures (simp (to_z-of_z, c.ranges.x, c.ranges.y, wide, fits) (rest _ _ _ (below (shown_sections false c.args.self.now.section_views) c.args.x c.args.y) header all))

pub returns-then-is_open : goal.returns-then-is_open
unfolding file_picture shown_file_picture shown_file row_picture header_picture file_counts
returns-then-is_open c =
    let fx : FitsSigned w64 c.args.x = c.ranges.x in
    let fy : FitsSigned w64 c.args.y = c.ranges.y in
    let shown = sym c.is_open.ensures ∙ c.if-is_open.true in
    let all = rw shown at c.requires in
    let wide : FitsSigned w64 (c.args.x +ℤ pos 2) = two-more _ (heading-rect _ _ _ _ (PictureInRange-part _ _ (PictureInRange-left _ _ all))).x in
    let fits : FitsSigned w64 (c.args.y +ℤ pos 1) = InRange-fits _ (heading-rect _ _ _ _ (PictureInRange-part _ _ (PictureInRange-left _ _ all))).end_y in
    let sections = shown_sections false c.args.self.now.section_views in
    let header = rw (c.header-header.ensures.key, c.header-header.ensures.heading) at (simp to_z-of_z at c.in_ok-draw_part.ensures) in
    rw shown (after _ (below sections c.args.x c.args.y) _ (λ s. sections_counts sections s.rect (c.args.y +ℤ pos 1)) header (rw c.as_slice.ensures at (simp to_z-of_z at c.draw_sections.ensures)))

pub returns-else-is_open : goal.returns-else-is_open
unfolding file_picture shown_file_picture shown_file row_picture header_picture sections_picture file_counts
returns-else-is_open c =
    let folded = sym c.is_open.ensures ∙ c.if-is_open.false in
    record {
      ok =
          let header = rw (c.header-header.ensures.key, c.header-header.ensures.heading) at (simp (to_z-of_z, c.ranges.x, c.ranges.y) at c.in_ok-draw_part.ensures.ok) in
          rw folded (header ∙ ap (with_picture c.args.viewport.now.canvas) (sym (followed-nothing _)));
      counts =
          let header = simp (to_z-of_z, c.ranges.x, c.ranges.y) at c.in_ok-draw_part.ensures.counts in
          rw folded (header ∙ ap (added c.args.viewport.now.counts) (sym (plus-none (header_counts c.args.viewport.now.canvas.sight.rect c.args.y))
          ∙ ap (plus (header_counts c.args.viewport.now.canvas.sight.rect c.args.y)) (sym (sections_counts-none [] c.args.viewport.now.canvas.sight.rect (c.args.y +ℤ pos 1) refl))));
      rect = search rules;
      err = search rules;
    }
