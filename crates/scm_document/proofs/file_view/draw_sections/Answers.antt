use Rattle.std.proofs.Common.{rules, refl, sym, ap, map, false, FitsSigned, w64, ◌+ℤ◌, pos}
use Rattle.std.specs.Prelude.{ℤ}
use Rattle.std.proofs.lemmas.Int.{to_z-of_z}
use Rattle.scm_cells.specs.Rect.{InRange}
use Rattle.scm_render.specs.Canvas.{Sight}
use Rattle.scm_render.specs.Picture.{part}
use Rattle.scm_render.proofs.PictureLemmas.{PictureInRange-part}
use Rattle.scm_render.proofs.StepLemmas.{InRange-fits, left-first, left-part, left-more, left-none}
use Rattle.scm_render.proofs.CountLemmas.{counts-more, counts-end}
use Rattle.scm_document.specs.declared.section_view.SectionView.{SectionView}
use Rattle.scm_document.specs.Rows.{section_height, section_id, shown_of_view}
use Rattle.scm_widgets.specs.Pictures.{IdPicture}
use Rattle.scm_document.specs.Pictures.{section_picture}
use Rattle.scm_document.proofs.SectionsLemmas.{section-in, sections-end, sections-more, shown-visible}
use Rattle.scm_document.proofs.CountLemmas.{sections_counts-more, sections_counts-none}
use Rattle.scm_document.proofs.file_view.draw_sections.Goals as goal

abbrev one : SectionView → ℤ → ℤ → Sight → IdPicture
one v x y s = part (section_id v.section_key) (section_picture v s x y)

pub sections-init : goal.sections-init
sections-init c =
    rw (c.new-walk.ensures, sym (shown-visible false c.args.views.now)) (simp (to_z-of_z, c.ranges.x, c.ranges.y) (record { row = c.requires.y; counts = refl; left = left-first _ _ c.requires.picture }))

pub row_below-below-requires-clause-end : goal.row_below-below-requires-clause-end
row_below-below-requires-clause-end c =
    let fx : FitsSigned w64 c.args.x = c.ranges.x in
    let v = c.in-Some.view.now in
    let more = sections-more _ v _ c.args.viewport.now.canvas.sight c.args.x c.sections.row c.in-Some.ensures.steps in
    let left = simp (to_z-of_z, c.sections.row-is) at c.sections.invariant.left in
    let one_in = left-part _ _ (one v c.args.x c.sections.row) _ _ _ more left in
    let at_row : InRange c.sections.row = simp c.sections.row-is at c.sections.invariant.row in
    simp c.sections.row-is (section-in v _ _ _ at_row (PictureInRange-part _ _ one_in))

pub draw_part-requires : goal.draw_part-requires
draw_part-requires c =
    let fx : FitsSigned w64 c.args.x = c.ranges.x in
    let v = c.in-Some.view.now in
    let more = sections-more _ v _ c.args.viewport.now.canvas.sight c.args.x c.sections.row c.in-Some.ensures.steps in
    let left = simp (to_z-of_z, c.sections.row-is) at c.sections.invariant.left in
    simp (to_z-of_z, c.sections.row-is) (left-part _ _ (one v c.args.x c.sections.row) _ _ _ more left)

pub sections-preserved : goal.sections-preserved
sections-preserved c =
    let fx : FitsSigned w64 c.args.x = c.ranges.x in
    let v = c.in-Some.view.now in
    let more = sections-more _ v _ c.args.viewport.now.canvas.sight c.args.x c.sections.row c.in-Some.ensures.steps in
    let left = simp (to_z-of_z, c.sections.row-is) at c.sections.invariant.left in
    let one_in = left-part _ _ (one v c.args.x c.sections.row) _ _ _ more left in
    let at_row : InRange c.sections.row = simp c.sections.row-is at c.sections.invariant.row in
    let next = section-in v _ _ _ at_row (PictureInRange-part _ _ one_in) in
    let fits : FitsSigned w64 (c.sections.row +ℤ pos (section_height v v.section.now)) = InRange-fits _ next in
    let below = simp c.sections.row-is at c.row_below-below.ensures in
    let drawn = simp (to_z-of_z, c.sections.row-is) at c.in_ok-draw_part.ensures.ok in
    let count = sections_counts-more _ v _ c.args.viewport.now.canvas.sight.rect c.sections.row c.in-Some.ensures.steps in
    let so_far = simp (to_z-of_z, c.sections.row-is) at c.sections.invariant.counts in
    let counted = simp left.sight at (simp (to_z-of_z, c.sections.row-is) at c.in_ok-draw_part.ensures.counts) in
    rw below (simp to_z-of_z (record {
      row = next;
      counts = counts-more _ _ _ _ _ _ _ count so_far counted;
      left = left-more _ _ _ (one v c.args.x c.sections.row) _ _ _ more left drawn;
    }))

pub returns : goal.returns
returns c =
    let fx : FitsSigned w64 c.args.x = c.ranges.x in
    let fy : FitsSigned w64 c.args.y = c.ranges.y in
    let none = c.in_default.ensures.steps.0 in
    record {
      ok =
          let left = simp (to_z-of_z, c.sections.row-is) at c.sections.invariant.left in
          left-none _ _ _ _ (sections-end _ c.args.viewport.now.canvas.sight c.args.x c.sections.row none) left;
      counts =
          let left = simp (to_z-of_z, c.sections.row-is) at c.sections.invariant.counts in
          counts-end _ _ _ _ (sections_counts-none _ c.args.viewport.now.canvas.sight.rect c.sections.row (ap (map shown_of_view) none)) left;
      rect = search rules;
      err = search rules;
    }
