-- What a run shows of two commits: screenshots are windows, clicks act on the owners of their places, and the store has screenshots alone.
use Rattle.std.proofs.Common.{◌≡◌, ℕ, ◌+◌, ◌<◌, ◌≤◌, Bool, true, false, List, [], cond, inl, inr, Option, refl, ap, ◌∙◌, arith}
use Rattle.scm_types.specs.Limits.{max_scroll}
use Rattle.scm_cells.specs.Screen.{view_of}
use Rattle.scm_render.specs.Canvas.{Row}
use Rattle.scm_widgets.specs.SameIds.{IdsAreToldApart, same_id}
use Rattle.scm_widgets.specs.declared.ids.ComponentId.{ComponentId}
use Rattle.scm_view.specs.AppView.{app_view_of}
use Rattle.scm_view.specs.Frame.{Frame, frame_of_picture, frame_of_view, is_plain}
use Rattle.scm_view.proofs.AlikeLemmas.{view-shows}
use Rattle.scm_input.specs.declared.events.Event.{Event}
use Rattle.scm_input.specs.declared.inputs.TerminalKind.{TerminalKind}
use Rattle.scm_input.specs.declared.inputs.TerminalKind.TheVariants.{Testing}
use Rattle.scm_input.specs.Store.{Store}
use Rattle.scm_record.specs.Session.{Session, IsDrawable}
use Rattle.scm_record.specs.Live.{Live}
use Rattle.scm_record.specs.LiveCalls.{AreRuns, Call, last, resized}
use Rattle.scm_record.specs.declared.live.Turn.TheVariants.{Waiting}
use Rattle.scm_record.specs.Frames.{columns_of, rows_of, scene_of}
use Rattle.scm_record.specs.FrameQueries.{hit, shot_of}
use Rattle.scm_record.specs.Clicks.{after_click}
use Rattle.scm_record.specs.Run.{World, after_change, after_screenshot, Before}
use Rattle.scm_record.specs.Headline.{blank_text, Handling, IsShot, StoreHasShots}
use Rattle.scm_record.proofs.AcceptedLemmas.{start-drawable}
use Rattle.scm_record.proofs.BatchLemmas.{cleared-by-redraw, handling-reached}
use Rattle.scm_record.proofs.DrawableLemmas.{reaches-drawable}
use Rattle.scm_record.proofs.FrameLemmas.{free-is}
use Rattle.scm_record.proofs.LiveLemmas.{sessions-are-runs}
use Rattle.scm_record.proofs.ShotLemmas.{hit-on_screen}
use Rattle.scm_beside_laws.specs.Laws.{AppsShowWindowsBeside, IsBeside}
use Rattle.scm_beside_laws.specs.Runs.{ClicksHitOwnersBeside, IsAdjacent, IsShotBeside, ScreensShowBeside, SessionsHitOwnersBeside, ShotsAreWindowsBeside, ShowsBeside, StoreHasShotsBeside, drawn_owner, drawn_window, shot_text_beside}
use Rattle.scm_beside_laws.proofs.BesideOwnerLemmas.{finds-beside}

-- ---- a screen

columns-most : (kind : TerminalKind) → columns_of kind ≤ 65535
columns-most (Testing width height) = omega arith

rows-most : (kind : TerminalKind) → rows_of kind ≤ 65535
rows-most (Testing width height) = omega arith

is-beside : (kind : TerminalKind) (drawn : Session) → IsAdjacent kind drawn → IsBeside (app_view_of drawn.shown) drawn.shown (columns_of kind) (rows_of kind)
is-beside kind drawn two = record {
  shows = view-shows drawn.shown;
  view_mode = two.view_mode;
  wide = two.wide;
  high = two.high;
  width = columns-most kind;
  height = rows-most kind;
}

-- the frame of two commits is that of their view
frame-drawn : (kind : TerminalKind) (drawn : Session) → IsAdjacent kind drawn
    → (scene_of kind drawn).frame ≡ frame_of_view (columns_of kind) (rows_of kind) drawn.scroll (app_view_of drawn.shown)
frame-drawn kind drawn two = free-is (columns_of kind) (rows_of kind) drawn (ap (is_plain (columns_of kind) (rows_of kind)) two.view_mode)

module _ (windows : AppsShowWindowsBeside) (apart : IdsAreToldApart) (kind : TerminalKind) (drawn : Session) (two : IsAdjacent kind drawn) where
  rows-beside : (frame_of_view (columns_of kind) (rows_of kind) drawn.scroll (app_view_of drawn.shown)).rows ≡ drawn_window kind drawn
  unfolding frame_of_picture
  rows-beside = windows drawn.shown (app_view_of drawn.shown) (columns_of kind) (rows_of kind) drawn.scroll (is-beside kind drawn two)

  owner-beside : (y x : ℕ) → x < columns_of kind
      → (frame_of_view (columns_of kind) (rows_of kind) drawn.scroll (app_view_of drawn.shown)).owner y x ≡ drawn_owner kind drawn y x
  unfolding frame_of_picture
  owner-beside y x within = finds-beside same_id apart drawn.shown (app_view_of drawn.shown) (columns_of kind) (rows_of kind) drawn.scroll (is-beside kind drawn two) y x within

  hits-beside : (s row column : ℕ) → s ≤ max_scroll → row < rows_of kind → column < columns_of kind
      → hit (scene_of kind drawn) s row column ≡ drawn_owner kind drawn (s + row) column
  hits-beside s row column low is_row is_column =
      hit-on_screen (scene_of kind drawn) s row column is_row is_column low
      ∙ ap (λ (f : Frame). f.owner (s + row) column) (frame-drawn kind drawn two)
      ∙ owner-beside (s + row) column is_column

  shows-beside : ShowsBeside kind drawn
  shows-beside = record {
    rows = ap (λ (f : Frame). f.rows) (frame-drawn kind drawn two) ∙ rows-beside;
    hits = hits-beside;
  }

pub screens-show : AppsShowWindowsBeside → IdsAreToldApart → ScreensShowBeside
screens-show windows apart kind drawn two = shows-beside windows apart kind drawn two

-- ---- live sessions

-- a live session that waits can be drawn
waiting-drawable : {s : Session} {kind : TerminalKind} {calls : List Call} {l : Live} → IsDrawable s → AreRuns s kind calls (Waiting l) → IsDrawable l.session
waiting-drawable drawable (last k run) = let led = run.leads [] [] in reaches-drawable led.3 drawable
waiting-drawable drawable (resized k run runs) = let led = run.leads [] [] in waiting-drawable (reaches-drawable led.3 drawable) runs

pub sessions-hit : ScreensShowBeside → SessionsHitOwnersBeside
sessions-hit screens given kind calls l row column accepted path two is_row is_column =
    let low = (waiting-drawable (start-drawable given accepted) (sessions-are-runs given kind calls accepted (Waiting l) path)).scroll in
    (screens l.kind l.session two).hits l.session.scroll row column low is_row is_column

-- ---- runs

shot-beside : (kind : TerminalKind) (drawn : Session) → ShowsBeside kind drawn → (cleared : Bool)
    → shot_of (scene_of kind drawn) cleared ≡ cond cleared (blank_text kind) (view_of (drawn_window kind drawn))
shot-beside kind drawn shows true = refl
shot-beside kind drawn shows false = ap (λ (rows : List Row). view_of rows) shows.rows

module _ (screens : ScreensShowBeside) (w0 : World) where
  -- the text of a screenshot of two commits
  text-beside : {drawn : Session} {w : World} {done left : List Event} → Handling (Before w0) drawn w done left → IsAdjacent w.kind drawn
      → shot_of (scene_of w.kind drawn) w.session.cleared ≡ shot_text_beside w.kind drawn done
  text-beside {drawn} {w} h two =
      shot-beside w.kind drawn (screens w.kind drawn two) w.session.cleared
      ∙ ap (λ (b : Bool). cond b (blank_text w.kind) (view_of (drawn_window w.kind drawn))) (cleared-by-redraw w0 h)

  pub shots-beside : ShotsAreWindowsBeside (Before w0)
  shots-beside drawn w done left shot h two = ap (after_screenshot w shot.place) (text-beside h two)

  of-shot : (place : ℕ) (text : List ℕ) → IsShot (Before w0) place text → IsShotBeside (Before w0) place text
  of-shot place text it = record {
    kept = it;
    beside = λ two. it.of_scene ∙ text-beside it.taken two;
  }

  pub stored-beside : (old new : Store) → StoreHasShots (Before w0) old new → StoreHasShotsBeside (Before w0) old new
  stored-beside old new had place text e = elim (had place text e) [
    | inl h ↦ inl h
    | inr h ↦ inr (of-shot place text h)
  ]

  pub clicks-beside : IsDrawable w0.session → ClicksHitOwnersBeside (Before w0)
  clicks-beside drawable drawn w done left row column h two is_row is_column =
      let low = (reaches-drawable (handling-reached (Before w0) h) drawable).scroll in
      ap (λ (o : Option ComponentId). after_change (scene_of w.kind drawn) w (after_click drawn.shown.open_menu w.session o))
      ((screens w.kind drawn two).hits w.session.scroll row column low is_row is_column)
