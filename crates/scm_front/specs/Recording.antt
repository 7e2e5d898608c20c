-- Which marks an event may change, and what a history keeps of an action.
use Rattle.std.specs.Prelude.{◌≡◌, ℕ, Bool, true, false, List, [], ◌∷◌, ◌++◌, length, Option, Some, None, if◌then◌else◌}
use Rattle.std.specs.List.{list_any}
use Rattle.scm_types.specs.declared.file.File.{File}
use Rattle.scm_types.specs.declared.keys.SelectionKey.{SelectionKey}
use Rattle.scm_widgets.specs.declared.ids.ComponentId.{ComponentId}
use Rattle.scm_widgets.specs.declared.ids.ComponentId.TheVariants as ids
use Rattle.scm_input.specs.declared.events.Event.{Event}
use Rattle.scm_input.specs.declared.events.Event.TheVariants as events
use Rattle.scm_record.specs.Clicks.{item_event}
use Rattle.scm_record.specs.FrameQueries.{hit}
use Rattle.scm_record.specs.Frames.{scene_of}
use Rattle.scm_record.specs.Live.{Live}
use Rattle.scm_record.specs.declared.live.Turn.{Turn}
use Rattle.scm_record.specs.declared.live.Turn.TheVariants as turns
use Rattle.scm_front_items.specs.declared.history.History.{History}
use Rattle.scm_front_items.specs.declared.items.Way.{Way}
use Rattle.scm_front_items.specs.declared.runs.Run.{Run}
use Rattle.scm_front_items.specs.declared.runs.Step.{Step}
use Rattle.scm_front_items.specs.Histories.{KeepsStep, no_history}
use Rattle.scm_front_items.specs.Runs.{marks_of_files, marks_with}
use Rattle.scm_front_items.specs.Steps.{changed_runs, changed_step, runs_now, runs_of_files, runs_of_key}
use Rattle.scm_front.specs.Keeping.{other_way, steps_of}
use Rattle.scm_front.specs.declared.recording.Author.{Author}
use Rattle.scm_front.specs.declared.recording.Author.TheVariants.{User, Program}
use Rattle.scm_front.specs.declared.recording.Effect.{Effect}
use Rattle.scm_front.specs.declared.recording.Effect.TheVariants as effects
use Rattle.scm_front.specs.declared.recording.Reach.{Reach}
use Rattle.scm_front.specs.declared.recording.Reach.TheVariants.{Nothing, Item, All}

-- ---- what an event may change

-- what an event does with marks
abbrev pub effect_of : Event → Effect
effect_of events.ToggleItem = effects.Item
effect_of events.ToggleItemAndAdvance = effects.Item
effect_of events.ToggleAll = effects.All
effect_of events.ToggleAllUniform = effects.All
effect_of (events.Click row column) = effects.Click row column
effect_of events.None = effects.Nothing
effect_of events.QuitAccept = effects.Nothing
effect_of events.QuitCancel = effects.Nothing
effect_of events.QuitInterrupt = effects.Nothing
effect_of events.QuitEscape = effects.Nothing
effect_of (events.TakeScreenshot shot) = effects.Nothing
effect_of events.Redraw = effects.Nothing
effect_of events.EnsureSelectionInViewport = effects.Nothing
effect_of events.ScrollUp = effects.Nothing
effect_of events.ScrollDown = effects.Nothing
effect_of events.PageUp = effects.Nothing
effect_of events.PageDown = effects.Nothing
effect_of events.FocusPrev = effects.Nothing
effect_of events.FocusPrevSameKind = effects.Nothing
effect_of events.FocusPrevPage = effects.Nothing
effect_of events.FocusNext = effects.Nothing
effect_of events.FocusNextSameKind = effects.Nothing
effect_of events.FocusNextPage = effects.Nothing
effect_of events.FocusInner = effects.Nothing
effect_of (events.FocusOuter fold_section) = effects.Nothing
effect_of events.ExpandItem = effects.Nothing
effect_of events.ExpandAll = effects.Nothing
effect_of events.ToggleCommitViewMode = effects.Nothing
effect_of events.EditCommitMessage = effects.Nothing
effect_of events.Help = effects.Nothing

-- whether an event with this effect may change marks
abbrev pub may_mark : Effect → Bool
may_mark effects.Nothing = false
may_mark effects.Item = true
may_mark effects.All = true
may_mark (effects.Click row column) = true

-- the marks that an event with this effect, which is no click, may change, with this selection
abbrev pub reach_by : SelectionKey → Effect → Reach
reach_by selection effects.Nothing = Nothing
reach_by selection effects.Item = Item selection
reach_by selection effects.All = All
reach_by selection (effects.Click row column) = Nothing

-- those that the event may change, if there is one
abbrev pub reach_if : SelectionKey → Option Event → Reach
reach_if selection None = Nothing
reach_if selection (Some event) = reach_by selection (effect_of event)

-- those that a click on an item of a menu may change
abbrev pub reach_of_item : SelectionKey → Option ℕ → ℕ → Reach
reach_of_item selection menu item = reach_if selection (item_event menu item)

-- those that a click on a component may change
abbrev pub reach_of_owner : Live → Option ComponentId → Reach
reach_of_owner l None = Nothing
reach_of_owner l (Some (ids.ToggleBox key)) = Item key
reach_of_owner l (Some (ids.MenuItem item)) = reach_of_item l.session.shown.selection l.session.shown.open_menu item
reach_of_owner l (Some ids.App) = Nothing
reach_of_owner l (Some ids.AppFiles) = Nothing
reach_of_owner l (Some ids.CommitMessageView) = Nothing
reach_of_owner l (Some (ids.CommitEditMessageButton commit)) = Nothing
reach_of_owner l (Some ids.MenuBar) = Nothing
reach_of_owner l (Some ids.MenuHeader) = Nothing
reach_of_owner l (Some (ids.Menu menu)) = Nothing
reach_of_owner l (Some (ids.SelectableItem key)) = Nothing
reach_of_owner l (Some (ids.ExpandBox key)) = Nothing
reach_of_owner l (Some (ids.FileViewHeader key)) = Nothing
reach_of_owner l (Some ids.QuitDialog) = Nothing
reach_of_owner l (Some (ids.QuitDialogButton button)) = Nothing
reach_of_owner l (Some ids.HelpDialog) = Nothing
reach_of_owner l (Some ids.HelpDialogQuitButton) = Nothing

-- those that an event with this effect may change; a click acts on what was drawn at its place
abbrev pub reach_from : Live → Effect → Reach
reach_from l effects.Nothing = Nothing
reach_from l effects.Item = Item l.session.shown.selection
reach_from l effects.All = All
reach_from l (effects.Click row column) = reach_of_owner l (hit (scene_of l.kind l.session) l.session.scroll row column)

-- the marks that an event may change
abbrev pub reach_of : Live → Event → Reach
reach_of l event = reach_from l (effect_of event)

-- those that one of the events may change
abbrev pub reach_of_all : List Event → Reach
reach_of_all list = if list_any (λ (event : Event). may_mark (effect_of event)) list then All else Nothing

-- the runs of the files that have these marks
abbrev pub runs_within : List File → Reach → List Run
runs_within files Nothing = []
runs_within files (Item key) = runs_of_key files key
runs_within files All = runs_of_files 0 (length files) files

-- ---- what a history keeps

-- `new` is kept after `old` and an action that left `files`, if these runs were taken before it: a step of those that changed, if some
-- did; nothing if the runs are not known
pub data Records (old : History) (before : Option (List Run)) (files : List File) (new : History) : Type 0 where
  forgets : before ≡ None → new ≡ no_history → Records old before files new
  stays : (runs : List Run) → before ≡ Some runs → changed_runs files runs ≡ [] → new ≡ old → Records old before files new
  keeps : (runs : List Run) → before ≡ Some runs → (changed_runs files runs ≡ [] → ⊥) → KeepsStep old.undos (changed_step files runs) new.undos
      → new.redos ≡ [] → Records old before files new

-- the same where the files are not read: nothing is kept, unless there were no runs
pub data RecordsUnread (old : History) (before : Option (List Run)) (new : History) : Type 0 where
  forgets_all : new ≡ no_history → RecordsUnread old before new
  stays_so : before ≡ Some [] → new ≡ old → RecordsUnread old before new

-- ---- what a history keeps of events that a program hands in

-- `new` is kept after `old` and events of a program that left `files`, if these runs were taken before them: the history begins anew if some
-- changed, or if the runs are not known
pub data Restarts (old : History) (before : Option (List Run)) (files : List File) (new : History) : Type 0 where
  runs_unknown : before ≡ None → new ≡ no_history → Restarts old before files new
  runs_stay : (runs : List Run) → before ≡ Some runs → changed_runs files runs ≡ [] → new ≡ old → Restarts old before files new
  runs_changed : (runs : List Run) → before ≡ Some runs → (changed_runs files runs ≡ [] → ⊥) → new ≡ no_history → Restarts old before files new

-- ---- by who made the change

-- what is kept after an action that left `files`
abbrev pub Changes : Author → History → Option (List Run) → List File → History → Type 0
Changes User old before files new = Records old before files new
Changes Program old before files new = Restarts old before files new

-- the same by the turn to which the action led; a session that has ended keeps nothing
abbrev pub RecordsAt : Author → History → Option (List Run) → Turn → History → Type 0
RecordsAt author old before (turns.Waiting l) new = Changes author old before l.session.shown.state.files new
RecordsAt author old before (turns.Editing a) new = RecordsUnread old before new
RecordsAt author old before (turns.Accepted state) new = Unit {0}

-- ---- marks that are restored

-- the items of a step with their marks in the files
abbrev pub back_of : List File → Step → Step
back_of files step = record step { runs = runs_now files step.runs }

-- after the newest step in a direction is restored, `new` keeps the rest of them, and in the other direction also a step to go back
pub record Returns (way : Way) (rest : List Step) (back : Step) (old new : History) : Type 0 where
  pub left : steps_of way new ≡ rest
  pub kept : KeepsStep (steps_of (other_way way) old) back (steps_of (other_way way) new)

-- ---- what that means for the marks

-- `new` is kept after `old` and an action that made all marks of the state `after` of `before`: if it changed some, the newest step leads
-- back, or nothing is kept
pub data Remembers (before after : List (List (List Bool))) (old new : History) : Type 0 where
  unchanged : after ≡ before → new ≡ old → Remembers before after old new
  remembered : (step : Step) → (after ≡ before → ⊥) → marks_with step after ≡ before → KeepsStep old.undos step new.undos → new.redos ≡ []
      → Remembers before after old new
  forgotten : new ≡ no_history → Remembers before after old new

-- the same by the turn to which the action led
abbrev pub RemembersAt : List (List (List Bool)) → History → Turn → History → Type 0
RemembersAt before old (turns.Waiting l) new = Remembers before (marks_of_files l.session.shown.state.files) old new
RemembersAt before old (turns.Editing a) new = Remembers before (marks_of_files a.session.shown.state.files) old new
RemembersAt before old (turns.Accepted state) new = Unit {0}

-- the newest step to undo, if there is one, leads from the marks `now` to `before`
abbrev pub Recalls : (before now : List (List (List Bool))) → History → Type 0
Recalls before now history = (rest : List Step) (step : Step) → history.undos ≡ rest ++ step ∷ [] → marks_with step now ≡ before

-- `new` is kept after `old` and events of a program that made all marks of the state `after` of `before`: if they changed some, nothing is kept
pub data BeginsAnew (before after : List (List (List Bool))) (old new : History) : Type 0 where
  marks_stay : after ≡ before → new ≡ old → BeginsAnew before after old new
  begun_anew : new ≡ no_history → BeginsAnew before after old new

-- the same by the turn to which the events led
abbrev pub BeginsAnewAt : List (List (List Bool)) → History → Turn → History → Type 0
BeginsAnewAt before old (turns.Waiting l) new = BeginsAnew before (marks_of_files l.session.shown.state.files) old new
BeginsAnewAt before old (turns.Editing a) new = BeginsAnew before (marks_of_files a.session.shown.state.files) old new
BeginsAnewAt before old (turns.Accepted state) new = Unit {0}
