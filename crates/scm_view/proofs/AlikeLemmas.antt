-- What is drawn of a session depends on the session alone.
use Rattle.std.proofs.Common.{◌≡◌, ℕ, ◌≤◌, ℤ, List, [], ◌∷◌, length, take, refl, ap, arith}
use Rattle.std.specs.Prelude.{pos, Bool, true, false}
use Rattle.scm_render.specs.Canvas.{Sight}
use Rattle.scm_render.specs.Picture.{followed_by, part}
use Rattle.scm_widgets.specs.declared.ids.ComponentId.TheVariants as ids
use Rattle.scm_document.specs.declared.commit_view.CommitView.{CommitView}
use Rattle.scm_document.specs.declared.commit_view.CommitViewMode.{CommitViewMode}
use Rattle.scm_document.specs.declared.commit_view.CommitViewMode.TheVariants.{Inline, Adjacent}
use Rattle.scm_document.specs.Rows.{document_of}
use Rattle.scm_document.specs.Pictures.{commit_picture}
use Rattle.scm_view.specs.ViewState.{ViewState, commit_view_of}
use Rattle.scm_document.specs.ViewColumns.{view_count, view_width, view_picture, next_view}
use Rattle.scm_view.specs.AppView.{views_picture, has_help, help_dialog_if_open, app_view_of, app_picture, ShowInOrder, ShowsSession, AppsAreDrawnAlike}

-- views of the same documents, one for one
abbrev AreAlike : List CommitView → List CommitView → Type 0
AreAlike [] [] = Unit {0}
AreAlike (v ∷ vs) (w ∷ ws) = (document_of v ≡ document_of w) × AreAlike vs ws
AreAlike _ _ = ⊥

view-alike : (v u : CommitView) (s : Sight) (x y : ℤ) → document_of v ≡ document_of u → commit_picture v s x y ≡ commit_picture u s x y
unfolding commit_picture
view-alike v u s x y e = rw e refl

views-alike : (vs us : List CommitView) (n : ℕ) (s : Sight) (x : ℤ) → AreAlike vs us → views_picture vs n s x ≡ views_picture us n s x
unfolding views_picture
views-alike [] [] n s x e = refl
views-alike (v ∷ vs) (u ∷ us) n s x e =
    let same : view_picture v s x n ≡ view_picture u s x n = view-alike v u _ x (pos 1) e.0 in
    rw same (ap (λ p. followed_by (part ids.AppFiles (view_picture u s x n)) p) (views-alike vs us n s (next_view u s x n) e.1))
views-alike _ _ n s x e = absurd e

-- the views that are drawn show the commits in order
first-alike : (mode : CommitViewMode) (vs : List CommitView) (shown : ViewState) → ShowInOrder vs shown 0 → view_count mode ≤ length vs
    → AreAlike (take (view_count mode) vs) (take (view_count mode) (commit_view_of shown 0 ∷ (commit_view_of shown 1 ∷ [])))
first-alike Inline [] shown h n = absurd (omega (arith, n))
first-alike Inline (v ∷ vs) shown h n = (h.0, tt)
first-alike Adjacent [] shown h n = absurd (omega (arith, n))
first-alike Adjacent (v ∷ []) shown h n = absurd (omega (arith, n))
first-alike Adjacent (v ∷ (u ∷ vs)) shown h n = (h.0, (h.1.0, tt))

pub help-where : (b : Bool) → has_help (help_dialog_if_open b) ≡ b
help-where true = refl
help-where false = refl

pub app-alike : AppsAreDrawnAlike
unfolding app_picture
app-alike shown a s x y shows =
    rw (
      shows.menu_bar,
      shows.view_mode,
      shows.quit_dialog,
      shows.help_dialog,
      help-where shown.is_help_open,
      views-alike (take (view_count shown.view_mode) a.commit_views) (take (view_count shown.view_mode) (commit_view_of shown 0 ∷ (commit_view_of shown 1 ∷ []))) (view_width shown.view_mode s.rect.width) s x
          (first-alike shown.view_mode a.commit_views shown shows.views shows.count),
    ) refl

-- the view that the definition makes of a session shows it
pub view-shows : (shown : ViewState) → ShowsSession (app_view_of shown) shown
view-shows shown = record {
  menu_bar = refl;
  view_mode = refl;
  views = (refl, (refl, tt));
  count = most shown.view_mode;
  quit_dialog = refl;
  help_dialog = help-where shown.is_help_open;
}
  where
    most : (mode : CommitViewMode) → view_count mode ≤ 2
    most Inline = omega arith
    most Adjacent = omega arith
