-- What runs and live sessions show of two commits beside each other: the clauses `shots`, `stored` and `clicks` of the headline, with the
-- window of two commits in the place of the inline one.
use Rattle.std.specs.Prelude.{◌≡◌, ℕ, ◌+◌, ◌<◌, ◌≤◌, IsTrue, List, ◌∷◌, slice_get, ◌⊎◌, Option, Some, if◌then◌else◌}
use Rattle.std.specs.List.{list_any}
use Rattle.scm_types.specs.declared.state.RecordState.{RecordState}
use Rattle.scm_types.specs.Limits.{is_accepted_state, max_scroll}
use Rattle.scm_cells.specs.Screen.{view_of}
use Rattle.scm_render.specs.Canvas.{Row}
use Rattle.scm_widgets.specs.declared.ids.ComponentId.{ComponentId}
use Rattle.scm_document.specs.declared.commit_view.CommitViewMode.TheVariants.{Adjacent}
use Rattle.scm_input.specs.declared.events.Event.{Event}
use Rattle.scm_input.specs.declared.events.Event.TheVariants as events
use Rattle.scm_input.specs.declared.events.TestingScreenshot.{TestingScreenshot}
use Rattle.scm_input.specs.declared.inputs.TerminalKind.{TerminalKind}
use Rattle.scm_input.specs.Store.{Store}
use Rattle.scm_screen.specs.Beside.{owner_beside, window_beside}
use Rattle.scm_record.specs.Session.{Session, start}
use Rattle.scm_record.specs.Live.{Live}
use Rattle.scm_record.specs.LiveCalls.{Call, Path}
use Rattle.scm_record.specs.declared.live.Turn.TheVariants.{Waiting}
use Rattle.scm_record.specs.Frames.{columns_of, rows_of, scene_of}
use Rattle.scm_record.specs.FrameQueries.{hit}
use Rattle.scm_record.specs.Clicks.{after_click}
use Rattle.scm_record.specs.Run.{World, after_screenshot, after_change, step, Point}
use Rattle.scm_record.specs.Headline.{blank_text, is_redraw, Handling, IsShot}

-- ---- what was drawn last

-- The session `drawn` shows two commits, on a screen of at least 21 columns and 2 rows.
pub record IsAdjacent (kind : TerminalKind) (drawn : Session) : Type 0 where
  -- Two commits are shown.
  pub view_mode : drawn.shown.view_mode ≡ Adjacent
  -- The screen has at least 21 columns.
  pub wide : 21 ≤ columns_of kind
  -- The screen has at least 2 rows.
  pub high : 2 ≤ rows_of kind

-- The window of the two commits of `drawn`.
abbrev pub drawn_window : TerminalKind → Session → List Row
drawn_window kind drawn = window_beside (columns_of kind) (rows_of kind) drawn.scroll drawn.shown

-- The owner of row `y` and column `x` of the documents of `drawn`.
abbrev pub drawn_owner : TerminalKind → Session → ℕ → ℕ → Option ComponentId
drawn_owner kind drawn y x = owner_beside (columns_of kind) (rows_of kind) drawn.scroll drawn.shown y x

-- ---- the screen

-- The screen that shows `drawn` has the rows of its window. A click there hits the owner of its place, at any scroll `s` of a session.
pub record ShowsBeside (kind : TerminalKind) (drawn : Session) : Type 0 where
  pub rows : (scene_of kind drawn).frame.rows ≡ drawn_window kind drawn
  pub hits : (s row column : ℕ) → s ≤ max_scroll → row < rows_of kind → column < columns_of kind
      → hit (scene_of kind drawn) s row column ≡ drawn_owner kind drawn (s + row) column

-- Each screen that shows two commits shows them so.
abbrev pub ScreensShowBeside : Type 0
ScreensShowBeside = (kind : TerminalKind) (drawn : Session) → IsAdjacent kind drawn → ShowsBeside kind drawn

-- A click on the screen of each live session that shows two commits hits the owner of its place. Calls have led to the session from the
-- start of an accepted state.
abbrev pub SessionsHitOwnersBeside : Type 0
SessionsHitOwnersBeside =
    (given : RecordState) (kind : TerminalKind) (calls : List Call) (l : Live) (row column : ℕ)
    → IsTrue (is_accepted_state given) → Path (Waiting (record { session = start given; kind = kind })) calls (Waiting l)
    → IsAdjacent l.kind l.session → row < rows_of l.kind → column < columns_of l.kind
    → hit (scene_of l.kind l.session) l.session.scroll row column ≡ drawn_owner l.kind l.session (l.session.scroll + row) column

-- ---- screenshots

-- The text of a screenshot of two commits: the window last drawn, or a blank screen after a `Redraw` in its batch.
abbrev pub shot_text_beside : TerminalKind → Session → List Event → List ℕ
shot_text_beside kind drawn done =
    if list_any is_redraw done then blank_text kind else view_of (drawn_window kind drawn)

-- Each screenshot of two commits of a run from `p` keeps that text.
abbrev pub ShotsAreWindowsBeside : Point → Type 0
ShotsAreWindowsBeside p =
    (drawn : Session) (w : World) (done left : List Event) (shot : TestingScreenshot)
    → Handling p drawn w done (events.TakeScreenshot shot ∷ left) → IsAdjacent w.kind drawn
    → step drawn w (events.TakeScreenshot shot)
    ≡ after_screenshot w shot.place (shot_text_beside w.kind drawn done)

-- A screenshot of a run from `p` kept `text` at index `place` of the store. If two commits were shown, it is their window, or a blank
-- screen.
pub record IsShotBeside (p : Point) (place : ℕ) (text : List ℕ) : Type 0 where
  -- The screenshot: where the run was, and what was drawn last.
  pub kept : IsShot p place text
  pub beside : IsAdjacent kept.world.kind kept.drawn → text ≡ shot_text_beside kept.world.kind kept.drawn kept.done

-- Each text of the store `new` was in `old`, or is that of a screenshot of the run from `p`.
abbrev pub StoreHasShotsBeside : Point → Store → Store → Type 0
StoreHasShotsBeside p old new =
    (place : ℕ) (text : List ℕ)
    → slice_get new.texts place ≡ Some (Some text) → (slice_get old.texts place ≡ Some (Some text)) ⊎ IsShotBeside p place text

-- ---- clicks

-- A click on a screen that shows two commits acts on the owner of its place: of the session last drawn, at the current scroll.
abbrev pub ClicksHitOwnersBeside : Point → Type 0
ClicksHitOwnersBeside p =
    (drawn : Session) (w : World) (done left : List Event) (row column : ℕ)
    → Handling p drawn w done (events.Click row column ∷ left) → IsAdjacent w.kind drawn
    → row < rows_of w.kind → column < columns_of w.kind
    → step drawn w (events.Click row column)
    ≡ after_change (scene_of w.kind drawn) w
    (after_click drawn.shown.open_menu w.session (drawn_owner w.kind drawn (w.session.scroll + row) column))
