use Rattle.std.proofs.Common.{rules, ◌≡◌, ◌+◌, ◌-◌, ap, length, arith, [], ℕ, ℤ, ◌+ℤ◌, pos, FitsSigned, w64}
use Rattle.std.proofs.lemmas.Int.{to_z-of_z}
use Rattle.scm_render.specs.Picture.{Picture, part}
use Rattle.scm_render.specs.Canvas.{Sight}
use Rattle.scm_screen_tests.specs.Samples.{caption_picture}
use Rattle.scm_screen_tests.specs.declared.samples.Caption.{Caption}
use Rattle.scm_screen_tests.proofs.SampleLemmas.{column_picture-more, column_picture-end, row_below-fits}
use Rattle.scm_cells.specs.Counts.{Counts, one_call, added}
use Rattle.scm_screen_tests.proofs.samples.ColumnComponent.draw.Goals as goal

abbrev none : Caption
none = record { id = 0; text = record { ref_ptr = (0, 0); now = [] } }

abbrev calls : ℕ → Counts
calls n = record { rows = 0; calls = n }

abbrev at : Caption → ℤ → ℤ → Sight → Picture ℕ
at k x y s = part k.id (caption_picture k s x y)

pub loop-caption-init : goal.loop-caption-init
loop-caption-init c =
    let fx : FitsSigned w64 c.args.x = c.ranges.x in
    let fy : FitsSigned w64 c.args.y = c.ranges.y in
    let whole : length c.args.self.now.captions.items - 0 ≡ length c.args.self.now.captions.items = omega arith in
    simp to_z-of_z (record { left = c.pictures_are_composed.ensures.begun _ _ c.requires; counts = ap (λ n. added c.args.viewport.now.counts (calls n)) whole })

pub draw_component-requires : goal.draw_component-requires
draw_component-requires c =
    let fx : FitsSigned w64 c.args.x = c.ranges.x in
    let items = c.deref-caption-items.ensures.value in
    let more = column_picture-more c.args.self.now.captions.items c.loop-caption.caption-index none c.args.viewport.now.canvas.sight c.args.x c.loop-caption.row (rw items at c.loop-caption-test.true) in
    let left = simp (to_z-of_z, c.loop-caption.row-is) at c.loop-caption.invariant.left in
    rw items (simp (to_z-of_z, c.loop-caption.row-is) (c.parts_are_in_range.ensures.next _ _ (at _ _ _) _ _ _ more left))

pub overflow_add-row : goal.overflow_add-row
overflow_add-row c =
    let fx : FitsSigned w64 c.args.x = c.ranges.x in
    let items = c.deref-caption-items.ensures.value in
    let more = column_picture-more c.args.self.now.captions.items c.loop-caption.caption-index none c.args.viewport.now.canvas.sight c.args.x c.loop-caption.row (rw items at c.loop-caption-test.true) in
    let left = rw more at (simp (to_z-of_z, c.loop-caption.row-is) at c.loop-caption.invariant.left.in_range) in
    simp c.loop-caption.row-is (row_below-fits c.calls_have_rects.ensures c.parts_are_in_range.ensures _ _ _ _ _ left)

pub loop-caption-preserved : goal.loop-caption-preserved
loop-caption-preserved c =
    let fx : FitsSigned w64 c.args.x = c.ranges.x in
    let items = c.deref-caption-items.ensures.value in
    let more = column_picture-more c.args.self.now.captions.items c.loop-caption.caption-index none c.args.viewport.now.canvas.sight c.args.x c.loop-caption.row (rw items at c.loop-caption-test.true) in
    let left = simp (to_z-of_z, c.loop-caption.row-is) at c.loop-caption.invariant.left in
    let below : FitsSigned w64 (c.loop-caption.row +ℤ pos 1) = row_below-fits c.calls_have_rects.ensures c.parts_are_in_range.ensures _ _ _ _ _ (rw more at left.in_range) in
    let drawn = simp (to_z-of_z, c.loop-caption.row-is) at (rw items at c.in_ok-draw_component.ensures.draws.ok) in
    let n = length c.args.self.now.captions.items in
    let i = c.loop-caption.caption-index in
    let inside = rw items at c.loop-caption-test.true in
    let one : n - i ≡ 1 + (n - (i + 1)) = omega (arith, inside) in
    let counted = c.counts_add_up.ensures.further _ _ _ (calls (n - i)) one_call (calls (n - (i + 1))) (calls n) (ap calls one) c.loop-caption.invariant.counts c.in_ok-draw_component.ensures.draws.counts in
    simp c.loop-caption.row-is (simp to_z-of_z (record { left = c.pictures_are_composed.ensures.further _ _ _ (at _ _ _) _ _ _ more left drawn; counts = counted }))

pub returns : goal.returns
returns c =
    let fx : FitsSigned w64 c.args.x = c.ranges.x in
    let fy : FitsSigned w64 c.args.y = c.ranges.y in
    let items = c.deref-caption-items.ensures.value in
    let end = column_picture-end c.args.self.now.captions.items c.loop-caption.caption-index c.args.viewport.now.canvas.sight c.args.x c.loop-caption.row (rw items at c.loop-caption-test.false) in
    let past = rw items at c.loop-caption-test.false in
    let none : length c.args.self.now.captions.items - c.loop-caption.caption-index ≡ 0 = omega (arith, past) in
    record {
      ok = c.pictures_are_composed.ensures.done _ _ _ _ end (simp (to_z-of_z, c.loop-caption.row-is) at c.loop-caption.invariant.left);
      counts = c.counts_add_up.ensures.done _ _ _ _ (ap calls none) c.loop-caption.invariant.counts;
      rect = search rules;
      err = search rules;
    }
