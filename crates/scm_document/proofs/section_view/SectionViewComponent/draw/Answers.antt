use Rattle.std.proofs.Common.{rules, refl, sym, ◌≤◌, length, FitsSigned, w64, ◌+ℤ◌, pos}
use Rattle.std.specs.Prelude.{ℕ, ℤ}
use Rattle.std.proofs.lemmas.Int.{to_z-of_z}
use Rattle.scm_render.specs.Canvas.{Sight}
use Rattle.scm_render.proofs.StepLemmas.{InRange-fits, left-first, left-part, left-more, left-none}
use Rattle.scm_render.proofs.CountLemmas.{counts-more, counts-end}
use Rattle.scm_document.specs.declared.section_view.SectionView.{SectionView}
use Rattle.scm_document.specs.Rows.{row_on, section_rows}
use Rattle.scm_widgets.specs.Pictures.{IdPicture}
use Rattle.scm_document.specs.Pictures.{row_picture, section_picture}
use Rattle.scm_document.proofs.RowsLemmas.{row-end}
use Rattle.scm_document.proofs.SectionsLemmas.{section-few, section-size}
use Rattle.scm_document.proofs.PassLemmas.{to-draw, cut-at, among-in, among-fits, picture-more, picture-end, counted-more, counted-end, rows-drawn, rows-counted}
use Rattle.scm_document.proofs.section_view.SectionViewComponent.draw.Goals as goal

abbrev one : SectionView → ℕ → ℤ → ℤ → Sight → IdPicture
one v i x y s = row_picture (row_on v i) s x y

pub height-requires : goal.height-requires
height-requires c = section-few _ _ _ _ c.requires

pub strict_add_unsigned-at-requires : goal.strict_add_unsigned-at-requires
unfolding section_picture
strict_add_unsigned-at-requires c =
    let fx : FitsSigned w64 c.args.x = c.ranges.x in
    let fy : FitsSigned w64 c.args.y = c.ranges.y in
    let canvas = c.args.viewport.now.canvas in
    let seen = to-draw c.args.self.now canvas c.args.y _ _ _ c.height.ensures (simp to_z-of_z at c.rows_to_draw-first.ensures.first) (simp to_z-of_z at c.rows_to_draw-first.ensures.end) in
    simp to_z-of_z (among-fits (section_rows c.args.self.now) canvas.sight c.args.x c.args.y _ _ (cut-at _ _ _ _ _ seen) fy c.requires)

pub loop-row-init : goal.loop-row-init
unfolding section_picture
loop-row-init c =
    let fx : FitsSigned w64 c.args.x = c.ranges.x in
    let fy : FitsSigned w64 c.args.y = c.ranges.y in
    let rows = section_rows c.args.self.now in
    let canvas = c.args.viewport.now.canvas in
    let seen = to-draw c.args.self.now canvas c.args.y _ _ _ c.height.ensures (simp to_z-of_z at c.rows_to_draw-first.ensures.first) (simp to_z-of_z at c.rows_to_draw-first.ensures.end) in
    let cut = cut-at _ _ _ _ _ seen in
    let fits : FitsSigned w64 (c.args.y +ℤ pos c.rows_to_draw-first.result.0) = among-fits rows canvas.sight c.args.x c.args.y _ _ cut fy c.requires in
    let first = simp to_z-of_z at c.strict_add_unsigned-at.ensures in
    rw first (simp to_z-of_z (record { left = left-first _ _ (among-in rows canvas.sight c.args.x c.args.y _ _ cut c.requires); counts = refl }))

pub draw_row-requires-clause-picture : goal.draw_row-requires-clause-picture
draw_row-requires-clause-picture c =
    let fx : FitsSigned w64 c.args.x = c.ranges.x in
    let most : c.rows_to_draw-first.result.1 ≤ length (section_rows c.args.self.now) = rw (section-size c.args.self.now, sym c.height.ensures) c.rows_to_draw-first.ensures.within in
    let more = picture-more (section_rows c.args.self.now) _ _ c.args.viewport.now.canvas.sight c.args.x c.loop-row.at c.loop-row-test.true most in
    let left = simp (to_z-of_z, c.loop-row.at-is) at c.loop-row.invariant.left in
    simp (to_z-of_z, c.loop-row.at-is) (left-part _ _ (one c.args.self.now c.loop-row.row c.args.x c.loop-row.at) _ _ _ more left)

pub overflow_add-at : goal.overflow_add-at
overflow_add-at c =
    let fx : FitsSigned w64 c.args.x = c.ranges.x in
    let most : c.rows_to_draw-first.result.1 ≤ length (section_rows c.args.self.now) = rw (section-size c.args.self.now, sym c.height.ensures) c.rows_to_draw-first.ensures.within in
    let more = picture-more (section_rows c.args.self.now) _ _ c.args.viewport.now.canvas.sight c.args.x c.loop-row.at c.loop-row-test.true most in
    let left = simp (to_z-of_z, c.loop-row.at-is) at c.loop-row.invariant.left in
    simp c.loop-row.at-is (InRange-fits _ (row-end _ _ _ _ (left-part _ _ (one c.args.self.now c.loop-row.row c.args.x c.loop-row.at) _ _ _ more left)))

pub loop-row-preserved : goal.loop-row-preserved
loop-row-preserved c =
    let fx : FitsSigned w64 c.args.x = c.ranges.x in
    let v = c.args.self.now in
    let canvas = c.args.viewport.now.canvas in
    let most : c.rows_to_draw-first.result.1 ≤ length (section_rows v) = rw (section-size v, sym c.height.ensures) c.rows_to_draw-first.ensures.within in
    let more = picture-more (section_rows v) _ _ canvas.sight c.args.x c.loop-row.at c.loop-row-test.true most in
    let left = simp (to_z-of_z, c.loop-row.at-is) at c.loop-row.invariant.left in
    let one_in = left-part _ _ (one v c.loop-row.row c.args.x c.loop-row.at) _ _ _ more left in
    let below : FitsSigned w64 (c.loop-row.at +ℤ pos 1) = InRange-fits _ (row-end _ _ _ _ one_in) in
    let drawn = simp (to_z-of_z, c.loop-row.at-is) at c.in_ok-draw_row.ensures.ok in
    let count = counted-more (section_rows v) _ _ canvas.sight.rect c.loop-row.at c.loop-row-test.true most in
    let so_far = simp (to_z-of_z, c.loop-row.at-is) at c.loop-row.invariant.counts in
    let counted = simp left.sight at (simp (to_z-of_z, c.loop-row.at-is) at c.in_ok-draw_row.ensures.counts) in
    simp c.loop-row.at-is (simp to_z-of_z (record {
      left = left-more _ _ _ (one v c.loop-row.row c.args.x c.loop-row.at) _ _ _ more left drawn;
      counts = counts-more _ _ _ _ _ _ _ count so_far counted;
    }))

pub returns : goal.returns
unfolding section_picture
returns c =
    let fx : FitsSigned w64 c.args.x = c.ranges.x in
    let fy : FitsSigned w64 c.args.y = c.ranges.y in
    let rows = section_rows c.args.self.now in
    let canvas = c.args.viewport.now.canvas in
    let seen = to-draw c.args.self.now canvas c.args.y _ _ _ c.height.ensures (simp to_z-of_z at c.rows_to_draw-first.ensures.first) (simp to_z-of_z at c.rows_to_draw-first.ensures.end) in
    record {
      ok =
          let left = simp (to_z-of_z, c.loop-row.at-is) at c.loop-row.invariant.left in
          rows-drawn canvas _ rows c.args.x c.args.y _ _ c.rows_to_draw-first.ensures.rows seen (left-none _ _ _ _ (picture-end rows _ _ canvas.sight c.args.x c.loop-row.at c.loop-row-test.false) left);
      counts =
          let left = simp (to_z-of_z, c.loop-row.at-is) at c.loop-row.invariant.counts in
          rows-counted canvas _ _ rows c.args.y _ _ seen (counts-end _ _ _ _ (counted-end rows _ _ canvas.sight.rect c.loop-row.at c.loop-row-test.false) left);
      rect = search rules;
      err = search rules;
    }
