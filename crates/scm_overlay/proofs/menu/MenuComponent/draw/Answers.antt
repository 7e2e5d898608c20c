use Rattle.std.proofs.Common.{rules, ℕ, arith, length, ◌+◌, ◌-◌, ◌*◌, ◌∙◌, sym, ap, FitsSigned, w64}
use Rattle.std.proofs.lemmas.Int.{to_z-of_z}
use Rattle.scm_cells.specs.Counts.{added}
use Rattle.scm_render.specs.Canvas.{Sight}
use Rattle.scm_render.specs.Drawing.{row_rect, blank_picture}
use Rattle.scm_render.specs.Picture.{Picture, followed_by}
use Rattle.scm_render.proofs.PictureLemmas.{PictureInRange-left}
use Rattle.scm_render.proofs.StepLemmas.{InRange-fits, left-first, left-part, left-more, left-none, step, rest}
use Rattle.scm_widgets.specs.Counts.{drawn}
use Rattle.scm_widgets.specs.declared.ids.ComponentId.{ComponentId}
use Rattle.scm_widgets.specs.declared.placed_button.PlacedButton.{PlacedButton}
use Rattle.scm_widgets.specs.Buttons.{button_part}
use Rattle.scm_widgets.proofs.CountLemmas.{calls-first, calls-then, calls-more, calls-end}
use Rattle.scm_overlay.specs.Menus.{menu_picture}
use Rattle.scm_overlay.proofs.PlaceLemmas.{blank-rect, items_picture-more, items_picture-end, menu-placed, length-items}
use Rattle.scm_overlay.proofs.menu.MenuComponent.draw.Goals as goal

-- a button, over n blanks
abbrev placed : ℕ → PlacedButton ComponentId → Sight → Picture ComponentId
placed n p s = followed_by (blank_picture s (row_rect p.rect.x p.rect.y n)) (button_part p.button s p.rect.x p.rect.y)

pub place_items-requires : goal.place_items-requires
place_items-requires c =
    let fx : FitsSigned w64 c.args.x = c.ranges.x in
    let fy : FitsSigned w64 c.args.y = c.ranges.y in
    rw c.as_slice-2.ensures (simp to_z-of_z (menu-placed _ _ _ _ c.requires))

pub loop-item-init : goal.loop-item-init
unfolding menu_picture
loop-item-init c =
    let fx : FitsSigned w64 c.args.x = c.ranges.x in
    let fy : FitsSigned w64 c.args.y = c.ranges.y in
    let made = simp to_z-of_z at (rw (c.as_slice-2.ensures, c.new-items.ensures.items) at c.in_ok-place_items.ensures.ok) in
    rw (c.in_ok-width.ensures.ok, c.as_slice.ensures, c.deref-item-items.ensures.value, made) (record { left = left-first _ _ c.requires; counts = calls-first _ 2 _ })

pub draw_blank-requires : goal.draw_blank-requires
draw_blank-requires c =
    let p = c.item-item.result in
    let more = rw (sym c.item-item.is) at (items_picture-more c.in_ok-width.width _ c.loop-item.item-index p c.args.viewport.now.canvas.sight c.loop-item-test.true) in
    let fits = left-part _ _ (placed c.in_ok-width.width p) _ _ _ more c.loop-item.invariant.left in
    let rect = blank-rect _ _ _ _ (PictureInRange-left _ _ fits) in
    let fx : FitsSigned w64 p.rect.x = InRange-fits _ rect.x in
    let fy : FitsSigned w64 p.rect.y = InRange-fits _ rect.y in
    simp to_z-of_z (PictureInRange-left _ _ fits)

pub draw_part-requires : goal.draw_part-requires
draw_part-requires c =
    let p = c.item-item.result in
    let more = rw (sym c.item-item.is) at (items_picture-more c.in_ok-width.width _ c.loop-item.item-index p c.args.viewport.now.canvas.sight c.loop-item-test.true) in
    let fits = left-part _ _ (placed c.in_ok-width.width p) _ _ _ more c.loop-item.invariant.left in
    let rect = blank-rect _ _ _ _ (PictureInRange-left _ _ fits) in
    let fx : FitsSigned w64 p.rect.x = InRange-fits _ rect.x in
    let fy : FitsSigned w64 p.rect.y = InRange-fits _ rect.y in
    let blank = simp to_z-of_z at c.in_ok-draw_blank.ensures.draws.ok in
    simp to_z-of_z (rest _ _ _ (λ s. button_part p.button s p.rect.x p.rect.y) blank fits)

pub loop-item-preserved : goal.loop-item-preserved
loop-item-preserved c =
    let p = c.item-item.result in
    let more = rw (sym c.item-item.is) at (items_picture-more c.in_ok-width.width _ c.loop-item.item-index p c.args.viewport.now.canvas.sight c.loop-item-test.true) in
    let fits = left-part _ _ (placed c.in_ok-width.width p) _ _ _ more c.loop-item.invariant.left in
    let rect = blank-rect _ _ _ _ (PictureInRange-left _ _ fits) in
    let fx : FitsSigned w64 p.rect.x = InRange-fits _ rect.x in
    let fy : FitsSigned w64 p.rect.y = InRange-fits _ rect.y in
    let blank = simp to_z-of_z at c.in_ok-draw_blank.ensures.draws.ok in
    let drawn = simp to_z-of_z at c.in_ok-draw_part.ensures.ok in
    let i = c.loop-item.item-index in
    let n = length c.deref-item-items.result.now in
    let counted = calls-more _ _ _ (2 * (n - i)) 2 (2 * (n - (i + 1))) (2 * n) (omega arith) c.loop-item.invariant.counts (calls-then _ _ _ 1 1 c.in_ok-draw_blank.ensures.draws.counts c.in_ok-draw_part.ensures.counts) in
    record {
      left = left-more _ _ _ (placed c.in_ok-width.width p) _ _ _ more c.loop-item.invariant.left
          (step _ _ _ _ (λ s. button_part p.button s p.rect.x p.rect.y) blank drawn);
      counts = counted;
    }

pub returns : goal.returns
unfolding menu_picture
returns c =
    let fx : FitsSigned w64 c.args.x = c.ranges.x in
    let fy : FitsSigned w64 c.args.y = c.ranges.y in
    let made = simp to_z-of_z at (rw (c.as_slice-2.ensures, c.new-items.ensures.items) at c.in_ok-place_items.ensures.ok) in
    let drawn-items = left-none _ _ _ _ (items_picture-end _ _ _ _ c.loop-item-test.false) c.loop-item.invariant.left in
    let count = ap length (c.deref-item-items.ensures.value ∙ made) ∙ length-items c.args.x c.args.y 0 c.args.self.now.items in
    record {
      ok = rw (c.deref-item-items.ensures.value, made, c.in_ok-width.ensures.ok, c.as_slice.ensures) at drawn-items;
      counts = calls-end _ _ _ _ (omega arith) c.loop-item.invariant.counts ∙ ap (λ k. added c.args.viewport.now.counts (drawn 0 (2 * k))) count;
      rect = search rules;
      err = search rules;
    }
