-- What is painted of a view without documents is what lies over them.
use Rattle.std.proofs.Common.{◌≡◌, ℕ, zero, suc, ◌+◌, ◌≤◌, Bool, true, List, [], ◌∷◌, length, take, refl, ap, ap₂, subst, ◌∙◌, arith, Option}
use Rattle.std.specs.Prelude.{ℤ, pos, ◌+ℤ◌}
use Rattle.std.proofs.lemmas.Int.{ints}
use Rattle.std.specs.List.{All}
use Rattle.scm_types.specs.Limits.{is_accepted_state, max_scroll}
use Rattle.scm_render.specs.Canvas.{Row, Sight, Canvas, paint_rows, with_picture}
use Rattle.scm_render.specs.Picture.{Picture, PictureInRange, followed_by, nothing, part}
use Rattle.scm_render.proofs.PictureLemmas.{PictureInRange-part, PictureInRange-right}
use Rattle.scm_render.proofs.CanvasLemmas.{with_picture-rows}
use Rattle.scm_widgets.specs.declared.ids.ComponentId.{ComponentId}
use Rattle.scm_widgets.specs.declared.ids.ComponentId.TheVariants as ids
use Rattle.scm_widgets.specs.Layers.{shown_by}
use Rattle.scm_widgets.specs.Screens.{screen, sight}
use Rattle.scm_widgets.proofs.SameLemmas.{same_component, same_component-lawful}
use Rattle.scm_document.proofs.RowsLemmas.{nothing-followed}
use Rattle.scm_document.specs.declared.commit_view.CommitView.{CommitView}
use Rattle.scm_document.specs.ViewColumns.{view_count, view_width}
use Rattle.scm_overlay.specs.declared.quit_dialog.QuitDialog.{QuitDialog}
use Rattle.scm_overlay.specs.Menus.{menu_bar_picture}
use Rattle.scm_overlay.specs.Overlays.{help_picture, overlays, quit_picture}
use Rattle.scm_overlay.proofs.OverlayLemmas.{overlays_draw}
use Rattle.scm_overlay.proofs.OverlaysPicture.{overlays_picture}
use Rattle.scm_view.specs.declared.app_view.AppView.{AppView}
use Rattle.scm_view.specs.AppView.{app_picture, app_view_of, has_help, views_picture}
use Rattle.scm_view.specs.ViewState.{ViewState}
use Rattle.scm_view.proofs.AlikeLemmas.{view-shows}
use Rattle.scm_view.proofs.AppRangeLemmas.{apps-in-range}
use Rattle.scm_view.proofs.WindowLemmas.{on_screen}
use Rattle.scm_screen.specs.DocumentRows.{each_row}
use Rattle.scm_screen.specs.Overlaid.{HasOverlays}

-- ---- the picture

views-none : (vs : List CommitView) (n m : ℕ) (t : Sight) (x : ℤ) → vs ≡ [] → views_picture (take n vs) m t x ≡ nothing
unfolding views_picture
views-none vs n m t x e = ap (λ us. views_picture (take n us) m t x) e ∙ go n
  where
    go : (n : ℕ) → views_picture (take n []) m t x ≡ nothing
    go zero = refl
    go (suc n) = refl

pub picture-is : (s : ViewState) (a : AppView) (w h z : ℕ) (y : ℤ) → HasOverlays s a → app_picture a (sight w h z) (pos 0) y ≡ overlays_picture w h z s.open_menu s.quit_dialog s.is_help_open
unfolding app_picture
picture-is s a w h z y o =
    let t = sight w h z in
    let rest = followed_by (part ids.MenuBar (menu_bar_picture a.menu_bar t (pos 0) (pos z))) (followed_by (quit_picture a.quit_dialog t) (help_picture (has_help a.help_dialog) t)) in
    ap (λ p. followed_by p rest) (views-none a.commit_views (view_count a.commit_view_mode) (view_width a.commit_view_mode w) t (pos 0) o.documents)
    ∙ nothing-followed rest
    ∙ (λ i. followed_by (part ids.MenuBar (menu_bar_picture (o.menu_bar i) t (pos 0) (pos z))) (followed_by (quit_picture (o.quit_dialog i) t) (help_picture (o.help_dialog i) t)))

pub over-in-range : (s : ViewState) (w h z : ℕ) → is_accepted_state s.state ≡ true → w ≤ 65535 → h ≤ 65535 → z ≤ max_scroll
    → PictureInRange (overlays_picture w h z s.open_menu s.quit_dialog s.is_help_open)
unfolding app_picture
over-in-range s w h z accepted pw ph pz =
    subst (λ b. PictureInRange (overlays_picture w h z s.open_menu s.quit_dialog b)) (view-shows s).help_dialog
    (PictureInRange-right _ _ (PictureInRange-part _ _ (apps-in-range s (app_view_of s) w h z (pos 0) accepted (view-shows s) pw ph pz)))

-- ---- rows

over-rows : (w h s z : ℕ) (menu : Option ℕ) (quit : Option QuitDialog) (help : Bool) (rows : List Row) → 2 ≤ w → 2 ≤ h → s ≤ z → z + length rows ≤ s + h → All (λ (row : Row). length row ≡ w) rows
    → paint_rows (screen w h s) (overlays_picture w h s menu quit help).puts (pos z) rows ≡ each_row (shown_by (overlays w h s menu quit help)) z rows
unfolding paint_rows each_row
over-rows w h s z menu quit help [] wide high a b long = refl
over-rows w h s z menu quit help (row ∷ rows) wide high a b long =
    let next : pos z +ℤ pos 1 ≡ pos (suc z) = omega (arith, ints) in
    ap₂ (λ (r : Row) (rs : List Row). r ∷ rs)
    ((overlays_draw same_component same_component-lawful w h s menu quit help wide high).paints z row (on_screen w h s z a (omega (arith, b))) (long zero row (omega arith)))
    (ap (λ y. paint_rows (screen w h s) (overlays_picture w h s menu quit help).puts y rows) next
    ∙ over-rows w h s (suc z) menu quit help rows wide high (omega (arith, a)) (omega (arith, b)) (λ k d within. long (suc k) d (omega (arith, within))))

-- what is left on a canvas
pub over-painted : (s : ViewState) (a : AppView) (w h z : ℕ) (c d : Canvas ComponentId) (before after : List Row) → HasOverlays s a → 2 ≤ w → 2 ≤ h → length before ≡ h → All (λ (row : Row). length row ≡ w) before
    → c.sight ≡ sight w h z → c.rows ≡ before → after ≡ d.rows → d ≡ with_picture c (app_picture a c.sight (pos 0) (pos 0))
    → after ≡ each_row (shown_by (overlays w h z s.open_menu s.quit_dialog s.is_help_open)) z before
over-painted s a w h z c d before after o wide high tall long seen rows e p =
    e ∙ ap (λ (v : Canvas ComponentId). v.rows) p ∙ with_picture-rows c (app_picture a c.sight (pos 0) (pos 0))
    ∙ ap (λ (t : Sight). paint_rows t.rect (app_picture a t (pos 0) (pos 0)).puts t.rect.y c.rows) seen
    ∙ ap (λ q. paint_rows (screen w h z) (app_picture a (sight w h z) (pos 0) (pos 0)).puts (pos z) q) rows
    ∙ ap (λ (m : Picture ComponentId). paint_rows (screen w h z) m.puts (pos z) before) (picture-is s a w h z (pos 0) o)
    ∙ over-rows w h z z s.open_menu s.quit_dialog s.is_help_open before wide high (omega arith) (omega (arith, tall)) long
