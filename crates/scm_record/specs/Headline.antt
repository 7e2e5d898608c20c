-- The headline of a run. Inline, each screenshot is the window of the session last drawn, and each click acts on the owner of its
-- place. A run is accepted exactly if its steps reach a confirmed quit, and it changes only marks and messages.
use Rattle.std.specs.Prelude.{◌≡◌, ℕ, ◌+◌, ◌<◌, ◌≤◌, Bool, true, false, IsTrue, List, [], ◌∷◌, ◌++◌, replicate, slice_get, ◌⊎◌, Option, Some, None, MatchOption, Result, IfOk, IfErr, if◌then◌else◌}
use Rattle.std.specs.List.{list_any}
use Rattle.scm_errors.specs.declared.error.RecordError.{RecordError}
use Rattle.scm_types.specs.declared.state.RecordState.{RecordState}
use Rattle.scm_errors.specs.Fault.{fault_of}
use Rattle.scm_types.specs.Limits.{is_accepted_state}
use Rattle.scm_cells.specs.Screen.{view_of}
use Rattle.scm_render.specs.Canvas.{Row}
use Rattle.scm_widgets.specs.declared.ids.ComponentId.{ComponentId}
use Rattle.scm_document.specs.declared.commit_view.CommitViewMode.TheVariants.{Inline}
use Rattle.scm_widgets.specs.Blanks.{blank_row}
use Rattle.scm_view.specs.Window.{window, owner}
use Rattle.scm_input.specs.declared.events.Event.{Event}
use Rattle.scm_input.specs.declared.events.Event.TheVariants as events
use Rattle.scm_input.specs.declared.events.TestingScreenshot.{TestingScreenshot}
use Rattle.scm_input.specs.declared.inputs.TerminalKind.{TerminalKind}
use Rattle.scm_input.specs.Store.{Store}
use Rattle.scm_record.specs.Session.{Session, start}
use Rattle.scm_record.specs.Frames.{columns_of, rows_of, scene_of}
use Rattle.scm_record.specs.FrameQueries.{shot_of}
use Rattle.scm_record.specs.Clicks.{after_click}
use Rattle.scm_record.specs.Run.{Setting, World, world_in, Goes, after_screenshot, after_change, step, batch, Point, Before, Drawn, Within, Reaches}
use Rattle.scm_record.specs.Keeping.{IsKept}

-- ---- what was drawn last

-- the session `drawn` is inline, on a screen of at least 10 columns and 2 rows
pub record IsInline (kind : TerminalKind) (drawn : Session) : Type 0 where
  -- one commit is shown
  pub view_mode : drawn.shown.view_mode ≡ Inline
  -- the screen has at least 10 columns
  pub wide : 10 ≤ columns_of kind
  -- the screen has at least 2 rows
  pub high : 2 ≤ rows_of kind

-- the window of `drawn`
abbrev pub window_of : TerminalKind → Session → List Row
window_of kind drawn = window (columns_of kind) (rows_of kind) drawn.scroll drawn.shown

-- the text of the window of `drawn`
abbrev pub window_text : TerminalKind → Session → List ℕ
window_text kind drawn = view_of (window_of kind drawn)

-- the text of a blank screen
abbrev pub blank_text : TerminalKind → List ℕ
blank_text kind = view_of (replicate (rows_of kind) (blank_row (columns_of kind)))

-- the owner of row `y` and column `x` of the document of `drawn`
abbrev pub owner_at : TerminalKind → Session → ℕ → ℕ → Option ComponentId
owner_at kind drawn y x = owner (columns_of kind) (rows_of kind) drawn.scroll drawn.shown y x

-- ---- batches

-- whether the event clears the screen
abbrev pub is_redraw : Event → Bool
is_redraw events.Redraw = true
is_redraw _ = false

-- a run from `p` is within a batch: the session last drawn, the world, the events that are handled and those that are left
pub data Handling (p : Point) : Session → World → List Event → List Event → Type 0 where
  begun : {v w : World} {drawn : Session} {left : List Event}
      → Reaches p (Drawn v) → batch v v.session.pending ≡ Within drawn w left → Handling p drawn w [] left
  handled : {v w : World} {drawn : Session} {event : Event} {done left : List Event}
      → Handling p drawn w done (event ∷ left) → step drawn w event ≡ Goes v → Handling p drawn v (done ++ event ∷ []) left

-- each point within a batch that a run from `p` reaches is of this kind
abbrev pub BatchesAreHandled : Point → Type 0
BatchesAreHandled p =
    (drawn : Session) (w : World) (left : List Event)
    → Reaches p (Within drawn w left) → (done : List Event) × Handling p drawn w done left

-- ---- screenshots and clicks

-- the text of an inline screenshot: the window last drawn, or a blank screen after a `Redraw` in its batch
abbrev pub shot_text : TerminalKind → Session → List Event → List ℕ
shot_text kind drawn done = if list_any is_redraw done then blank_text kind else window_text kind drawn

-- each inline screenshot of a run from `p` keeps that text
abbrev pub ShotsAreWindows : Point → Type 0
ShotsAreWindows p =
    (drawn : Session) (w : World) (done left : List Event) (shot : TestingScreenshot)
    → Handling p drawn w done (events.TakeScreenshot shot ∷ left) → IsInline w.kind drawn
    → step drawn w (events.TakeScreenshot shot)
    ≡ after_screenshot w shot.place (shot_text w.kind drawn done)

-- `text` was kept at index `place` of the store by a screenshot of a run from `p`
pub record IsShot (p : Point) (place : ℕ) (text : List ℕ) : Type 0 where
  -- where the run was: the session last drawn, the world, and the events of the batch
  pub drawn : Session
  pub world : World
  pub done : List Event
  pub left : List Event
  -- the screenshot that was taken there
  pub shot : TestingScreenshot
  pub taken : Handling p drawn world done (events.TakeScreenshot shot ∷ left)
  pub at_place : shot.place ≡ place
  -- it shows the scene last drawn, or a blank screen
  pub of_scene : text ≡ shot_of (scene_of world.kind drawn) world.session.cleared
  -- inline it shows the window, or a blank screen
  pub inline : IsInline world.kind drawn → text ≡ shot_text world.kind drawn done

-- each text of the store `new` was in `old`, or is that of a screenshot of the run from `p`
abbrev pub StoreHasShots : Point → Store → Store → Type 0
StoreHasShots p old new =
    (place : ℕ) (text : List ℕ)
    → slice_get new.texts place ≡ Some (Some text) → (slice_get old.texts place ≡ Some (Some text)) ⊎ IsShot p place text

-- before the first event of a batch, the session is shown as it was last drawn
abbrev pub BatchesBeginAsDrawn : Point → Type 0
BatchesBeginAsDrawn p =
    (drawn : Session) (w : World) (left : List Event)
    → Handling p drawn w [] left → (w.session.shown ≡ drawn.shown) × (w.session.scroll ≡ drawn.scroll)

-- an inline click on the screen acts on the owner of its place: of the session last drawn, at the current scroll
abbrev pub ClicksHitOwners : Point → Type 0
ClicksHitOwners p =
    (drawn : Session) (w : World) (done left : List Event) (row column : ℕ)
    → Handling p drawn w done (events.Click row column ∷ left) → IsInline w.kind drawn
    → row < rows_of w.kind → column < columns_of w.kind
    → step drawn w (events.Click row column)
    ≡ after_change (scene_of w.kind drawn) w
    (after_click drawn.shown.open_menu w.session (owner_at w.kind drawn (w.session.scroll + row) column))

-- ---- ends

-- a run from `p` reaches a confirmed quit with `state`: `QuitAccept` while the quit dialog and the help are closed
pub record ConfirmsQuit (p : Point) (state : RecordState) : Type 0 where
  -- where: the session last drawn, the world, and the events left after it
  pub drawn : Session
  pub world : World
  pub left : List Event
  pub reached : Reaches p (Within drawn world (events.QuitAccept ∷ left))
  -- no dialog is open
  pub no_dialog : world.session.shown.quit_dialog ≡ None
  pub no_help : world.session.shown.is_help_open ≡ false
  -- the state is that session's
  pub confirmed : world.session.shown.state ≡ state

-- the result is a state exactly if the steps reach a confirmed quit with that state, unless an allocation failed
abbrev pub AcceptsConfirmedQuits : Point → Result RecordState RecordError → Type 0
AcceptsConfirmedQuits p result =
    IfOk result (λ state. ConfirmsQuit p state)
    × IfErr result (λ error. MatchOption (fault_of error) (Unit {0}) (λ fault. (state : RecordState) → ConfirmsQuit p state → ⊥))

-- a state that is returned differs from the given one only in marks and messages
abbrev pub KeepsAllElse : Session → Result RecordState RecordError → Type 0
KeepsAllElse s result =
    IfOk result (λ state. (given : RecordState) → IsTrue (is_accepted_state given) → s ≡ start given → IsKept given state)

-- the headline of the run of `s` in the setting `a` that leaves the setting `b` and returns `result`
pub record Headline (s : Session) (a b : Setting) (result : Result RecordState RecordError) : Type 0 where
  -- batches are handled event by event
  pub handled : BatchesAreHandled (Before (world_in a s 0))
  -- screenshots show the window
  pub shots : ShotsAreWindows (Before (world_in a s 0))
  -- the store has only screenshots
  pub stored : StoreHasShots (Before (world_in a s 0)) a.store b.store
  -- batches begin as drawn
  pub begun : BatchesBeginAsDrawn (Before (world_in a s 0))
  -- clicks act on owners
  pub clicks : ClicksHitOwners (Before (world_in a s 0))
  -- the run is accepted exactly by a confirmed quit
  pub accepts : AcceptsConfirmedQuits (Before (world_in a s 0)) result
  -- only marks and messages change
  pub keeps : KeepsAllElse s result
