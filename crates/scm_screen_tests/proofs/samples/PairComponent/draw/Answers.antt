use Rattle.std.proofs.Common.{rules, ℕ, ℤ, pos, ◌+ℤ◌, FitsSigned, w64}
use Rattle.std.proofs.lemmas.Int.{to_z-of_z}
use Rattle.scm_render.specs.Picture.{Picture, PictureInRange, part}
use Rattle.scm_render.specs.Canvas.{Sight}
use Rattle.scm_render.specs.Laws.{CallsHaveRects, PartsAreInRange}
use Rattle.scm_screen_tests.specs.Samples.{caption_picture, pair_picture}
use Rattle.scm_screen_tests.specs.declared.samples.Pair.{Pair}
use Rattle.scm_screen_tests.proofs.SampleLemmas.{caption_row-fits}
use Rattle.scm_cells.specs.Counts.{one_call}
use Rattle.scm_screen_tests.proofs.samples.PairComponent.draw.Goals as goal

abbrev lower : Pair → ℤ → ℤ → Sight → Picture ℕ
lower p x y s = part p.second.id (caption_picture p.second s x (y +ℤ pos 1))

pub draw_component-requires : goal.draw_component-requires
unfolding pair_picture
draw_component-requires c =
    let fx : FitsSigned w64 c.args.x = c.ranges.x in
    let fy : FitsSigned w64 c.args.y = c.ranges.y in
    simp to_z-of_z (c.parts_are_in_range.ensures.first _ _ c.requires)

second_row-fits : CallsHaveRects ℕ → PartsAreInRange ℕ → (p : Pair) (s : Sight) (x y : ℤ) → PictureInRange (pair_picture p s x y) → FitsSigned w64 (y +ℤ pos 1)
unfolding pair_picture
second_row-fits rects parts p s x y r = caption_row-fits rects p.second s x (y +ℤ pos 1) (parts.inner _ _ (parts.second _ _ r))

pub overflow_add-y : goal.overflow_add-y
overflow_add-y c =
    let fy : FitsSigned w64 c.args.y = c.ranges.y in
    simp to_z-of_z (second_row-fits c.calls_have_rects.ensures c.parts_are_in_range.ensures _ _ _ _ c.requires)

pub draw_component-requires-2 : goal.draw_component-requires-2
unfolding pair_picture
draw_component-requires-2 c =
    let fx : FitsSigned w64 c.args.x = c.ranges.x in
    let fy : FitsSigned w64 c.args.y = c.ranges.y in
    let below = second_row-fits c.calls_have_rects.ensures c.parts_are_in_range.ensures c.args.self.now c.args.viewport.now.canvas.sight c.args.x c.args.y c.requires in
    let first = simp to_z-of_z at c.in_ok-draw_component.ensures.draws.ok in
    simp to_z-of_z (c.parts_are_in_range.ensures.rest _ _ _ (lower c.args.self.now c.args.x c.args.y) first c.requires)

pub returns : goal.returns
unfolding pair_picture
returns c =
    let fx : FitsSigned w64 c.args.x = c.ranges.x in
    let fy : FitsSigned w64 c.args.y = c.ranges.y in
    let below = second_row-fits c.calls_have_rects.ensures c.parts_are_in_range.ensures c.args.self.now c.args.viewport.now.canvas.sight c.args.x c.args.y c.requires in
    let first = simp to_z-of_z at c.in_ok-draw_component.ensures.draws.ok in
    let second = simp to_z-of_z at c.in_ok-draw_component-2.ensures.draws.ok in
    record {
      ok = c.pictures_are_composed.ensures.step _ _ _ _ (lower c.args.self.now c.args.x c.args.y) first second;
      counts = c.counts_add_up.ensures.step _ _ _ one_call one_call c.in_ok-draw_component.ensures.draws.counts c.in_ok-draw_component-2.ensures.draws.counts;
      rect = search rules;
      err = search rules;
    }
