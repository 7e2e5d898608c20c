use Rattle.std.proofs.Common.{◌≡◌, ◌∙◌, ◌+◌, ◌++◌, ℕ, ap, sym, drop, length, replicate, take}
use Rattle.std.proofs.lemmas.List.{length-replicate}
use Rattle.scm_cells.specs.Screen.{Screen}
use Rattle.scm_overlay.specs.Overlays.{overlays}
use Rattle.scm_render.specs.Canvas.{Row}
use Rattle.scm_strips.specs.Shows.{whole}
use Rattle.scm_strips.proofs.RowLemmas.{on-ok, sized-then}
use Rattle.scm_view.specs.Window.{inline_document}
use Rattle.scm_widgets.specs.Blanks.{blank_row}
use Rattle.scm_widgets.specs.Layers.{shown_by}
use Rattle.scm_screen.specs.DocumentRows.{each_row, row_over, row_shown, with_shown}
use Rattle.scm_screen.proofs.FirstRowLemmas.{rows-hidden}
use Rattle.scm_screen.proofs.OverCountLemmas.{window-few}
use Rattle.scm_screen.proofs.InlineLemmas.{inline-rows}
use Rattle.scm_screen.proofs.PaintedLemmas.{windows-painted}
use Rattle.scm_screen.proofs.overlaid.paint_window.Goals as goal

pub returns-clause-ok : goal.returns-clause-ok
returns-clause-ok c =
    let s = c.args.shown.now in
    let z = c.args.scroll in
    let w = c.args.grid.now.width in
    let h = length c.args.grid.now.rows in
    let d = inline_document s in
    let blank : c.clear.new.self.rows ≡ replicate h (blank_row w) = ap (λ (g : Screen). g.rows) c.clear.ensures in
    let wide : c.width.result ≡ w = c.width.ensures.value ∙ ap (λ (g : Screen). g.width) c.clear.ensures in
    let cleared : length c.clear.new.self.rows ≡ h = ap (λ (g : Screen). length g.rows) c.clear.ensures ∙ length-replicate h (blank_row w) in
    let high : length c.paint_shown.new.grid.rows ≡ h = c.in_ok-paint_shown.ensures.size.height ∙ cleared in
    let size = sized-then _ _ _ c.in_ok-paint_shown.ensures.size c.in_ok-paint_top.ensures.size in
    let columns : c.paint_top.new.grid.width ≡ w = size.width ∙ ap (λ (g : Screen). g.width) c.clear.ensures in
    let tall : length c.paint_top.new.grid.rows ≡ h = size.height ∙ cleared in
    let n = c.first_row-first.result in
    let under : c.paint_shown.new.grid.rows ≡ take n (replicate h (blank_row w)) ++ each_row (λ (y : ℕ) (row : Row). with_shown (whole w) (row_shown d y) row) (z + n) (drop n (replicate h (blank_row w))) =
    c.in_ok-paint_shown.ensures.ok ∙ (λ i. take n (blank i) ++ each_row (λ (y : ℕ) (row : Row). with_shown (whole (wide i)) (row_shown d y) row) (z + n) (drop n (blank i))) in
    let over = c.in_ok-paint_top.ensures.ok ∙ (λ i. each_row (λ (y : ℕ) (row : Row). with_shown (whole (wide i)) (row_over (high i) z d y) row) z (under i)) in
    on-ok c.paint_overlays.result
    (λ p. p
    ∙ (λ i. each_row (shown_by (overlays (columns i) (tall i) z s.open_menu s.quit_dialog s.is_help_open)) z (over i))
    ∙ rows-hidden w h z n d s c.requires.wide c.requires.high c.first_row-first.ensures
    ∙ sym (windows-painted w h z s c.requires.inline)
    ∙ inline-rows w h z s c.requires.inline c.requires.wide)
    c.paint_overlays.ensures.ok

pub returns-clause-few : goal.returns-clause-few
returns-clause-few c =
    let h = length c.args.grid.now.rows in
    let none = ap (λ (g : Screen). g.counts) c.clear.ensures in
    let tall : length c.clear.new.self.rows ≡ h = ap (λ (g : Screen). length g.rows) c.clear.ensures ∙ length-replicate h (blank_row c.args.grid.now.width) in
    on-ok c.paint_overlays.result
    (λ p. window-few h c.first_row-first.result (length c.clear.new.self.rows) c.clear.new.self.counts c.paint_shown.new.grid.counts c.paint_top.new.grid.counts _ tall none c.in_ok-paint_shown.ensures.few c.in_ok-paint_top.ensures.few p)
    c.paint_overlays.ensures.few
