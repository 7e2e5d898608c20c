use Rattle.std.proofs.Common.{◌≡◌, ◌∙◌, ◌≤◌, pos, ap, sym, subst, arith, length, refl, w64, to_z}
use Rattle.std.proofs.lemmas.Int.{to_z_pos}
use Rattle.scm_types.proofs.LimitLemmas.{scroll_room}
use Rattle.scm_cells.specs.Counts.{Counts}
use Rattle.scm_cells.specs.Screen.{Screen}
use Rattle.scm_render.specs.Canvas.{Canvas}
use Rattle.scm_render.specs.Picture.{Picture, PictureInRange}
use Rattle.scm_widgets.specs.declared.ids.ComponentId.{ComponentId}
use Rattle.scm_widgets.specs.Screens.{sight}
use Rattle.scm_strips.proofs.RowLemmas.{on-ok}
use Rattle.scm_screen.specs.Overlaid.{AreFewOver}
use Rattle.scm_screen.proofs.OverlaidLemmas.{over-in-range, over-painted, picture-is}
use Rattle.scm_screen.proofs.OverCountLemmas.{over-counted}
use Rattle.scm_screen.proofs.overlaid.paint_overlays.Goals as goal

pub draw-outcome-requires : goal.draw-outcome-requires
draw-outcome-requires c =
    let s = c.args.shown.now in
    let w = c.args.grid.now.width in
    let h = length c.args.grid.now.rows in
    let y : to_z w64 c.args.scroll ≡ pos c.args.scroll = to_z_pos w64 c.args.scroll (omega (arith, c.requires.scroll, scroll_room)) in
    let narrow : w ≤ 65535 = omega (arith, c.width.ensures.sizes.width) in
    let low : h ≤ 65535 = omega (arith, c.width.ensures.sizes.height) in
    let seen : c.for_painting-viewport.result.canvas.sight ≡ sight w h c.args.scroll =
    rw (y, c.width.ensures.value, c.height.ensures.value) at (ap (λ (v : Canvas ComponentId). v.sight) c.for_painting-viewport.ensures.canvas) in
    rw seen (subst (λ (m : Picture ComponentId). PictureInRange m) (sym (picture-is s c.args.view.now w h c.args.scroll (pos 0) c.requires.view)) (over-in-range s w h c.args.scroll c.requires.accepted narrow low c.requires.scroll))

pub returns-clause-ok : goal.returns-clause-ok
returns-clause-ok c =
    let w = c.args.grid.now.width in
    let h = length c.args.grid.now.rows in
    let y : to_z w64 c.args.scroll ≡ pos c.args.scroll = to_z_pos w64 c.args.scroll (omega (arith, c.requires.scroll, scroll_room)) in
    let seen : c.for_painting-viewport.result.canvas.sight ≡ sight w h c.args.scroll =
    rw (y, c.width.ensures.value, c.height.ensures.value) at (ap (λ (v : Canvas ComponentId). v.sight) c.for_painting-viewport.ensures.canvas) in
    let rows : c.for_painting-viewport.result.canvas.rows ≡ c.args.grid.now.rows = ap (λ (v : Canvas ComponentId). v.rows) c.for_painting-viewport.ensures.canvas ∙ ap (λ (g : Screen). g.rows) c.replace.ensures.value in
    on-ok c.draw-outcome.result
    (λ p. over-painted c.args.shown.now c.args.view.now w h c.args.scroll c.for_painting-viewport.result.canvas c.draw-outcome.new.viewport.canvas c.args.grid.now.rows c.into_grid.result.rows
    c.requires.view c.requires.wide c.requires.high refl c.width.ensures.sizes.columns seen rows c.into_grid.ensures.rows p)
    c.draw-outcome.ensures.ok

pub returns-clause-few : goal.returns-clause-few
returns-clause-few c =
    let before : c.for_painting-viewport.result.counts ≡ c.args.grid.now.counts = c.for_painting-viewport.ensures.counts ∙ ap (λ (g : Screen). g.counts) c.replace.ensures.value in
    on-ok c.draw-outcome.result
    (λ p. subst (λ (k : Counts). AreFewOver k c.into_grid.result.counts) before
    (over-counted c.args.shown.now c.args.view.now c.for_painting-viewport.result.canvas.sight c.for_painting-viewport.result.counts c.draw-outcome.new.viewport.counts c.into_grid.result.counts c.requires.view c.into_grid.ensures.counts p))
    c.draw-outcome.ensures.counts
