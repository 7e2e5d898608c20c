-- How much is drawn: on one row, call after call, and on rows below one another.
use Rattle.std.proofs.Common.{◌≡◌}
use Rattle.std.specs.Prelude.{ℤ}
use Rattle.scm_cells.specs.Counts.{Counts, plus, added}
use Rattle.scm_render.specs.Canvas.{Sight}
use Rattle.scm_render.proofs.CountLemmas.{counts-then}
use Rattle.scm_view.specs.declared.app_view.AppView.{AppView}
use Rattle.scm_view.specs.AppView.{shown_views, has_help, app_counts}
use Rattle.scm_document.specs.ViewColumns.{view_width, views_counts}
use Rattle.scm_widgets.specs.Counts.{drawn}
use Rattle.scm_overlay.specs.Counts.{bar_calls, quit_calls, help_calls}

-- all of them, and what lies over them
pub app-counted : (c d e f g : Counts) (a : AppView) (s : Sight) (x : ℤ) → d ≡ added c (views_counts (shown_views a) (view_width a.commit_view_mode s.rect.width) s x)
    → e ≡ added d (drawn 0 (bar_calls a.menu_bar)) → f ≡ added e (drawn 0 (quit_calls a.quit_dialog)) → g ≡ added f (drawn 0 (help_calls (has_help a.help_dialog))) → g ≡ added c (app_counts a s x)
unfolding app_counts
app-counted c d e f g a s x hd he hf hg =
    let views = views_counts (shown_views a) (view_width a.commit_view_mode s.rect.width) s x in
    let quit = drawn 0 (quit_calls a.quit_dialog) in
    let help = drawn 0 (help_calls (has_help a.help_dialog)) in
    let bar = drawn 0 (bar_calls a.menu_bar) in
    counts-then c d g views (plus bar (plus quit help)) hd (counts-then d e g bar (plus quit help) he (counts-then e f g quit help hf hg))
