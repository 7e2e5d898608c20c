use Rattle.std.proofs.Common.{rules, ◌∙◌, ℕ, ℤ, pos, ◌+ℤ◌, FitsSigned, w64}
use Rattle.std.proofs.lemmas.Int.{to_z-of_z}
use Rattle.scm_render.specs.Picture.{Picture, PictureInRange, part, followed_by}
use Rattle.scm_render.specs.Canvas.{Sight, under}
use Rattle.scm_render.specs.Laws.{CallsHaveRects, PartsAreInRange}
use Rattle.scm_screen_tests.specs.Samples.{caption_picture, pane_picture, nest_picture}
use Rattle.scm_screen_tests.specs.declared.samples.Nest.{Nest}
use Rattle.scm_screen_tests.proofs.SampleLemmas.{caption_row-fits}
use Rattle.scm_cells.specs.Counts.{one_call}
use Rattle.scm_screen_tests.proofs.samples.NestComponent.draw.Goals as goal

abbrev upper : Nest → ℤ → ℤ → Sight → Picture ℕ
upper n x y s = part n.pane.id (pane_picture n.pane s x y)

abbrev lower : Nest → ℤ → ℤ → Sight → Picture ℕ
lower n x y s = part n.below.id (caption_picture n.below s x (y +ℤ pos 1))

pub draw_component-requires : goal.draw_component-requires
unfolding nest_picture
draw_component-requires c =
    let fx : FitsSigned w64 c.args.x = c.ranges.x in
    let fy : FitsSigned w64 c.args.y = c.ranges.y in
    rw c.swap_mask-outer.ensures.new (simp to_z-of_z (c.parts_are_in_range.ensures.first _ _ c.requires))

row_below-fits : CallsHaveRects ℕ → PartsAreInRange ℕ → (n : Nest) (s : Sight) (x y : ℤ) → PictureInRange (nest_picture n s x y) → FitsSigned w64 (y +ℤ pos 1)
unfolding nest_picture
row_below-fits rects parts n s x y r = caption_row-fits rects n.below (under n.mask s) x (y +ℤ pos 1) (parts.inner _ _ (parts.second _ _ r))

pub overflow_add-y : goal.overflow_add-y
overflow_add-y c =
    let fy : FitsSigned w64 c.args.y = c.ranges.y in
    simp to_z-of_z (row_below-fits c.calls_have_rects.ensures c.parts_are_in_range.ensures _ _ _ _ c.requires)

pub draw_component-requires-2 : goal.draw_component-requires-2
unfolding nest_picture
draw_component-requires-2 c =
    let fx : FitsSigned w64 c.args.x = c.ranges.x in
    let fy : FitsSigned w64 c.args.y = c.ranges.y in
    let below = row_below-fits c.calls_have_rects.ensures c.parts_are_in_range.ensures c.args.self.now c.args.viewport.now.canvas.sight c.args.x c.args.y c.requires in
    let first = simp to_z-of_z at c.in_ok-draw_component.ensures.draws.ok in
    simp to_z-of_z (c.parts_are_in_range.ensures.rest c.swap_mask-outer.new.self.canvas _ _ (lower c.args.self.now c.args.x c.args.y) first (rw c.swap_mask-outer.ensures.new c.requires))

pub returns : goal.returns
unfolding nest_picture
returns c =
    let fx : FitsSigned w64 c.args.x = c.ranges.x in
    let fy : FitsSigned w64 c.args.y = c.ranges.y in
    let nest = c.args.self.now in
    let below = row_below-fits c.calls_have_rects.ensures c.parts_are_in_range.ensures nest c.args.viewport.now.canvas.sight c.args.x c.args.y c.requires in
    record {
      ok =
          let first = simp to_z-of_z at c.in_ok-draw_component.ensures.draws.ok in
          let second = simp to_z-of_z at c.in_ok-draw_component-2.ensures.draws.ok in
          c.pictures_are_composed.ensures.masked _ c.swap_mask-outer.new.self.canvas c.draw_component-2.new.self.canvas _ nest.mask
          (λ s. followed_by (upper nest c.args.x c.args.y s) (lower nest c.args.x c.args.y s))
          c.swap_mask-outer.ensures.new
          (c.pictures_are_composed.ensures.step _ _ _ _ (lower nest c.args.x c.args.y) first second)
          (rw c.swap_mask-outer.ensures.old at c.swap_mask.ensures.new);
      counts =
          let first = rw c.swap_mask-outer.ensures.counts at c.in_ok-draw_component.ensures.draws.counts in
          c.swap_mask.ensures.counts ∙ c.counts_add_up.ensures.step _ _ _ one_call one_call first c.in_ok-draw_component-2.ensures.draws.counts;
      rect = search rules;
      err = search rules;
    }
