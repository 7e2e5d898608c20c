-- All that the selector draws of a session is in range.
use Rattle.std.proofs.Common.{◌≡◌, ℕ, suc, ◌-◌, ◌*◌, ◌/◌, ◌≤◌, ℤ, pos, ◌+ℤ◌, ◌≤ℤ◌, Bool, true, false, List, [], ◌∷◌, length, take, refl, arith, ◌+◌, ◌^◌}
use Rattle.std.specs.Prelude.{min, Option, Some, None}
use Rattle.std.specs.Int.{int_min, int_max}
use Rattle.std.proofs.lemmas.List.{length-take}
use Rattle.scm_types.proofs.LimitLemmas.{scroll_room}
use Rattle.scm_types.specs.Limits.{is_accepted_state, max_scroll}
use Rattle.scm_cells.proofs.RectLemmas.{places}
use Rattle.scm_render.specs.Picture.{PictureInRange, box_rect, part}
use Rattle.scm_render.specs.Canvas.{under}
use Rattle.scm_render.proofs.PictureLemmas.{PictureInRange-nothing, PictureInRange-followed, PictureInRange-as_part}
use Rattle.scm_widgets.specs.declared.ids.ComponentId.TheVariants as ids
use Rattle.scm_view.specs.declared.app_view.AppView.{AppView}
use Rattle.scm_document.specs.declared.commit_view.CommitView.{CommitView}
use Rattle.scm_document.specs.declared.commit_view.CommitViewMode.{CommitViewMode}
use Rattle.scm_document.specs.declared.commit_view.CommitViewMode.TheVariants.{Inline, Adjacent}
use Rattle.scm_overlay.specs.declared.menu_bar.MenuBar.{MenuBar}
use Rattle.scm_overlay.specs.declared.quit_dialog.QuitDialog.{QuitDialog}
use Rattle.scm_view.specs.ViewState.{ViewState}
use Rattle.scm_document.specs.ScrollBounds.{IsInScrollBounds, SightIsInScrollBounds}
use Rattle.scm_overlay.specs.Menus.{menu_bar_picture}
use Rattle.scm_overlay.specs.Tables.{menus_with, quit_dialog, help_dialog, named_dialog_picture}
use Rattle.scm_widgets.specs.DrawBounds.{RectIsInDrawBounds}
use Rattle.scm_widgets.specs.Screens.{screen, sight}
use Rattle.scm_overlay.specs.Overlays.{quit_picture, help_picture}
use Rattle.scm_document.specs.ViewColumns.{view_count, view_width, view_mask, view_picture, next_view}
use Rattle.scm_view.specs.AppView.{shown_views, views_picture, has_help, app_picture, ShowInOrder, ShowsSession}
use Rattle.scm_view.proofs.LimitLemmas.{commits-in-range}
use Rattle.scm_overlay.proofs.RangeLemmas.{screen-here, bar-range, dialog-here}
use Rattle.scm_overlay.proofs.FixedLemmas.{short_bar, short_quit, short_help}
use Rattle.scm_view.proofs.AppLemmas.{apply-columns}

-- ---- the documents

held-close : (x : ℤ) (w : ℕ) → w ≤ 65535 → IsInScrollBounds (int_min (int_max x (pos 0)) (pos 0 +ℤ pos w))
held-close x w h = record { low = omega (arith, places, h); high = omega (arith, places, h) }

pub close-sight : (w h s n : ℕ) (x : ℤ) → w ≤ 65535 → s ≤ max_scroll → SightIsInScrollBounds (under (view_mask (sight w h s) x n) (sight w h s))
close-sight w h s n x pw ps = record {
  x = record { low = omega (arith, places); high = omega (arith, places) };
  end_x = record { low = omega (arith, places); high = omega (arith, places, pw) };
  mask_x = held-close x w pw;
  mask_y = record { low = omega (arith, places); high = omega (arith, places, ps) };
}

close-column : (x : ℤ) (l : ℕ) → pos 0 ≤ℤ x → (x +ℤ pos (65536 * suc l)) ≤ℤ pos (max_scroll + 2 ^ 17) → IsInScrollBounds x
close-column x l p q = record { low = p; high = omega (arith, places, q) }

pub close-row : IsInScrollBounds (pos 1)
close-row = record { low = omega (arith, places); high = omega (arith, places) }

step-low : (x : ℤ) (k : ℕ) → pos 0 ≤ℤ x → pos 0 ≤ℤ ((x +ℤ pos k) +ℤ pos 1)
step-low x k p = omega (arith, places, p)

step-high : (x : ℤ) (k n c m l : ℕ) → k ≤ min (n - c) m → n ≤ 65535 → (x +ℤ pos (65536 * suc l)) ≤ℤ pos (max_scroll + 2 ^ 17) → (((x +ℤ pos k) +ℤ pos 1) +ℤ pos (65536 * l)) ≤ℤ pos (max_scroll + 2 ^ 17)
step-high x k n c m l p q r = omega (arith, places, p, q, r)

views-in : (shown : ViewState) (vs : List CommitView) (commit n w h s : ℕ) (x : ℤ) → is_accepted_state shown.state ≡ true → ShowInOrder vs shown commit → w ≤ 65535 → s ≤ max_scroll → n ≤ 65535
    → pos 0 ≤ℤ x → (x +ℤ pos (65536 * length vs)) ≤ℤ pos (max_scroll + 2 ^ 17) → PictureInRange (views_picture vs n (sight w h s) x)
unfolding views_picture
views-in shown [] commit n w h s x a shows pw ps pn low high = PictureInRange-nothing
views-in shown (v ∷ vs) commit n w h s x a shows pw ps pn low high =
    let screen = sight w h s in
    let columns = apply-columns (view_mask screen x n) (box_rect (view_picture v screen x n)) _ refl in
    PictureInRange-followed _ _
    (PictureInRange-as_part ids.AppFiles _ (commits-in-range shown commit v (under (view_mask screen x n) screen) x (pos 1) a shows.0 (close-sight w h s n x pw ps) (close-column x (length vs) low high) close-row))
    (views-in shown vs (suc commit) n w h s (next_view v screen x n) a shows.1 pw ps pn (step-low x _ low) (step-high x _ n _ _ (length vs) columns pn high))

show-first : (k : ℕ) (shown : ViewState) (vs : List CommitView) (commit : ℕ) → ShowInOrder vs shown commit → ShowInOrder (take k vs) shown commit
show-first (suc k) shown (v ∷ vs) commit h = (h.0, show-first k shown vs (suc commit) h.1)
show-first _ shown _ commit h = tt

pub few-views : (mode : CommitViewMode) (vs : List CommitView) → length (take (view_count mode) vs) ≤ 2
few-views Inline vs = omega (arith, length-take 1 vs)
few-views Adjacent vs = omega (arith, length-take 2 vs)

narrow-view : (mode : CommitViewMode) (w : ℕ) → w ≤ 65535 → view_width mode w ≤ 65535
narrow-view Inline w h = h
narrow-view Adjacent w h = at-most ((w - 1) / 2)
  where
    at-most : (n : ℕ) → min 120 n ≤ 65535
    at-most n = omega arith

first-columns : (l : ℕ) → l ≤ 2 → (pos 0 +ℤ pos (65536 * l)) ≤ℤ pos (max_scroll + 2 ^ 17)
first-columns l h = omega (arith, places, h)

-- ---- what lies over them

pub screen-in : (w h s : ℕ) → w ≤ 65535 → h ≤ 65535 → s ≤ max_scroll → RectIsInDrawBounds (screen w h s)
screen-in w h s pw ph ps = screen-here w h s (omega (arith, pw)) (omega (arith, ph)) (omega (arith, ps, scroll_room))

pub bar-in : (w h s : ℕ) (b : MenuBar) (menu : Option ℕ) → b ≡ menus_with menu → w ≤ 65535 → h ≤ 65535 → s ≤ max_scroll → PictureInRange (menu_bar_picture b (sight w h s) (pos 0) (pos s))
bar-in w h s b menu e pw ph ps = bar-range w h s b (omega (arith, pw)) (omega (arith, ph)) (omega (arith, ps, scroll_room)) (rw e (short_bar menu))

quit-in : (w h s : ℕ) (q : Option QuitDialog) → w ≤ 65535 → h ≤ 65535 → s ≤ max_scroll → PictureInRange (quit_picture q (sight w h s))
unfolding named_dialog_picture
quit-in w h s None pw ph ps = PictureInRange-nothing
quit-in w h s (Some q) pw ph ps =
    PictureInRange-as_part ids.QuitDialog _ (PictureInRange-as_part ids.QuitDialog _ (dialog-here (quit_dialog q) (sight w h s) (screen-in w h s pw ph ps) (omega (arith, short_quit q))))

help-in : (w h s : ℕ) (is_shown : Bool) → w ≤ 65535 → h ≤ 65535 → s ≤ max_scroll → PictureInRange (help_picture is_shown (sight w h s))
unfolding named_dialog_picture
help-in w h s false pw ph ps = PictureInRange-nothing
help-in w h s true pw ph ps =
    PictureInRange-as_part ids.HelpDialog _ (PictureInRange-as_part ids.HelpDialog _ (dialog-here help_dialog (sight w h s) (screen-in w h s pw ph ps) (omega (arith, short_help))))

pub apps-in-range : (shown : ViewState) (a : AppView) (w h s : ℕ) (y : ℤ) → is_accepted_state shown.state ≡ true → ShowsSession a shown → w ≤ 65535 → h ≤ 65535 → s ≤ max_scroll
    → PictureInRange (part ids.App (app_picture a (sight w h s) (pos 0) y))
unfolding app_picture
apps-in-range shown a w h s y accepted shows pw ph ps =
    PictureInRange-as_part ids.App _ (PictureInRange-followed _ _
    (views-in shown (shown_views a) 0 (view_width a.commit_view_mode w) w h s (pos 0) accepted (show-first (view_count a.commit_view_mode) shown a.commit_views 0 shows.views) pw ps (narrow-view a.commit_view_mode w pw)
    (omega (arith, places)) (first-columns (length (shown_views a)) (few-views a.commit_view_mode a.commit_views)))
    (PictureInRange-followed _ _ (PictureInRange-as_part ids.MenuBar _ (bar-in w h s a.menu_bar shown.open_menu shows.menu_bar pw ph ps))
    (PictureInRange-followed _ _ (quit-in w h s a.quit_dialog pw ph ps) (help-in w h s (has_help a.help_dialog) pw ph ps))))
