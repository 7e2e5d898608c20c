use Rattle.std.proofs.Common.{◌≡◌, ◌∙◌, pos, ap, arith, length, replicate, w64, to_z}
use Rattle.std.proofs.lemmas.Int.{to_z_pos}
use Rattle.std.proofs.lemmas.List.{length-replicate}
use Rattle.scm_types.proofs.LimitLemmas.{scroll_room}
use Rattle.scm_cells.specs.Counts.{no_counts}
use Rattle.scm_cells.specs.Screen.{Screen}
use Rattle.scm_render.proofs.PictureLemmas.{PictureInRange-part}
use Rattle.scm_render.specs.Canvas.{Canvas}
use Rattle.scm_widgets.specs.declared.ids.ComponentId.{ComponentId}
use Rattle.scm_widgets.specs.Blanks.{blank_row}
use Rattle.scm_widgets.specs.Screens.{sight}
use Rattle.scm_document.proofs.RowsLemmas.{on-ok}
use Rattle.scm_view.proofs.AppRangeLemmas.{apps-in-range}
use Rattle.scm_view.proofs.PaintLemmas.{few-painted, window-painted}
use Rattle.scm_view.proofs.app_view.AppView.paint.Goals as goal

pub draw-outcome-requires : goal.draw-outcome-requires
draw-outcome-requires c =
    let w = c.args.grid.now.width in
    let h = length c.args.grid.now.rows in
    let y : to_z w64 c.args.scroll ≡ pos c.args.scroll = to_z_pos w64 c.args.scroll (omega (arith, c.requires.shows.scroll, scroll_room)) in
    let wide : c.width.result ≡ w = c.width.ensures.value ∙ ap (λ (g : Screen). g.width) c.clear.ensures in
    let tall : c.height.result ≡ h = c.height.ensures.value ∙ ap (λ (g : Screen). length g.rows) c.clear.ensures ∙ length-replicate h (blank_row w) in
    let seen : c.for_painting-viewport.result.canvas.sight ≡ sight w h c.args.scroll =
    rw (y, wide, tall) at (ap (λ (v : Canvas ComponentId). v.sight) c.for_painting-viewport.ensures.canvas) in
    let i = c.requires.shows in
    rw seen (PictureInRange-part _ _ (apps-in-range i.shown c.args.self.now w h c.args.scroll (pos 0) i.accepted i.plain.shows i.plain.width i.plain.height i.scroll))

pub returns-clause-ok : goal.returns-clause-ok
returns-clause-ok c =
    let w = c.args.grid.now.width in
    let h = length c.args.grid.now.rows in
    let y : to_z w64 c.args.scroll ≡ pos c.args.scroll = to_z_pos w64 c.args.scroll (omega (arith, c.requires.shows.scroll, scroll_room)) in
    let wide : c.width.result ≡ w = c.width.ensures.value ∙ ap (λ (g : Screen). g.width) c.clear.ensures in
    let tall : c.height.result ≡ h = c.height.ensures.value ∙ ap (λ (g : Screen). length g.rows) c.clear.ensures ∙ length-replicate h (blank_row w) in
    let whole = c.replace.ensures.value ∙ c.clear.ensures in
    let seen : c.for_painting-viewport.result.canvas.sight ≡ sight w h c.args.scroll =
    rw (y, wide, tall) at (ap (λ (v : Canvas ComponentId). v.sight) c.for_painting-viewport.ensures.canvas) in
    let blank : c.for_painting-viewport.result.canvas.rows ≡ replicate h (blank_row w) = ap (λ (v : Canvas ComponentId). v.rows) c.for_painting-viewport.ensures.canvas ∙ ap (λ (g : Screen). g.rows) whole in
    on-ok _ (window-painted c.for_painting-viewport.result.canvas c.draw-outcome.new.viewport.canvas c.args.self.now w h c.args.scroll c.into_grid.result.rows seen blank c.into_grid.ensures.rows)
    c.draw-outcome.ensures.ok

pub returns-clause-few : goal.returns-clause-few
returns-clause-few c =
    let w = c.args.grid.now.width in
    let h = length c.args.grid.now.rows in
    let y : to_z w64 c.args.scroll ≡ pos c.args.scroll = to_z_pos w64 c.args.scroll (omega (arith, c.requires.shows.scroll, scroll_room)) in
    let wide : c.width.result ≡ w = c.width.ensures.value ∙ ap (λ (g : Screen). g.width) c.clear.ensures in
    let tall : c.height.result ≡ h = c.height.ensures.value ∙ ap (λ (g : Screen). length g.rows) c.clear.ensures ∙ length-replicate h (blank_row w) in
    let whole = c.replace.ensures.value ∙ c.clear.ensures in
    let seen : c.for_painting-viewport.result.canvas.sight ≡ sight w h c.args.scroll =
    rw (y, wide, tall) at (ap (λ (v : Canvas ComponentId). v.sight) c.for_painting-viewport.ensures.canvas) in
    let none : c.for_painting-viewport.result.counts ≡ no_counts = c.for_painting-viewport.ensures.counts ∙ ap (λ (g : Screen). g.counts) whole in
    let i = c.requires.shows in
    on-ok _ (few-painted c.for_painting-viewport.result.counts c.draw-outcome.new.viewport.counts c.into_grid.result.counts c.args.self.now i.shown w h c.args.scroll c.for_painting-viewport.result.canvas.sight i.plain seen none c.into_grid.ensures.counts)
    c.draw-outcome.ensures.counts
