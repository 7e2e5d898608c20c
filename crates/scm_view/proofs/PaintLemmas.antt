-- What painting leaves on a cleared grid: the window, with few counts.
use Rattle.std.proofs.Common.{◌≡◌, ℕ, List, replicate, sym, ap, subst, ◌∙◌}
use Rattle.std.specs.Prelude.{pos}
use Rattle.scm_cells.specs.Counts.{Counts, no_counts, added}
use Rattle.scm_render.specs.Canvas.{Row, Sight, Canvas, paint_rows, with_picture}
use Rattle.scm_render.proofs.CanvasLemmas.{with_picture-rows}
use Rattle.scm_widgets.specs.declared.ids.ComponentId.{ComponentId}
use Rattle.scm_widgets.specs.Blanks.{blank_row}
use Rattle.scm_widgets.specs.Screens.{screen, sight}
use Rattle.scm_view.specs.declared.app_view.AppView.{AppView}
use Rattle.scm_view.specs.AppView.{app_picture, app_counts}
use Rattle.scm_view.specs.ViewState.{ViewState}
use Rattle.scm_view.specs.Window.{window, IsPlain, IsFew}
use Rattle.scm_view.proofs.FewLemmas.{few-calls-inline}
use Rattle.scm_view.proofs.WindowLemmas.{shows-window}

pub window-painted : (c d : Canvas ComponentId) (a : AppView) (w h s : ℕ) (rows : List Row) → c.sight ≡ sight w h s → c.rows ≡ replicate h (blank_row w) → rows ≡ d.rows
    → d ≡ with_picture c (app_picture a c.sight (pos 0) (pos 0)) → (shown : ViewState) → IsPlain a shown w h → rows ≡ window w h s shown
window-painted c d a w h s rows seen blank e p shown plain =
    e ∙ ap (λ (v : Canvas ComponentId). v.rows) p ∙ with_picture-rows c (app_picture a c.sight (pos 0) (pos 0))
    ∙ ap (λ (t : Sight). paint_rows t.rect (app_picture a t (pos 0) (pos 0)).puts t.rect.y c.rows) seen
    ∙ ap (λ q. paint_rows (screen w h s) (app_picture a (sight w h s) (pos 0) (pos 0)).puts (pos s) q) blank
    ∙ shows-window shown a w h s plain

pub few-painted : (n m k : Counts) (a : AppView) (shown : ViewState) (w h s : ℕ) (t : Sight) → IsPlain a shown w h → t ≡ sight w h s → n ≡ no_counts → k ≡ m → m ≡ added n (app_counts a t (pos 0)) → IsFew h k
few-painted n m k a shown w h s t plain seen none e p =
    let all : k ≡ added no_counts (app_counts a (sight w h s) (pos 0)) = e ∙ p ∙ ap (λ q. added q (app_counts a t (pos 0))) none ∙ ap (λ u. added no_counts (app_counts a u (pos 0))) seen in
    subst (λ q. IsFew h q) (sym all) (few-calls-inline shown a w h s plain).1
