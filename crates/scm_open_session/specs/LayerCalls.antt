-- Calls of a layer: how a session begins with it, its theme, the words of what accepting does, and the start.
use Rattle.std.specs.Prelude.{◌≡◌, ℕ, ◌-◌, min, Bool, false, List, [], Option, Some, None, Ok, IsTrue, option_and_then}
use Rattle.scm_errors.specs.declared.error.RecordError.TheVariants.{OutOfMemory}
use Rattle.scm_types.specs.declared.keys.SelectionKey.{SelectionKey}
use Rattle.scm_types.specs.declared.state.RecordState.{RecordState}
use Rattle.scm_types.specs.Limits.{is_accepted_state}
use Rattle.scm_input.specs.declared.inputs.TerminalKind.TheVariants.{Testing}
use Rattle.scm_terminal.specs.Decoders.{HasHeard}
use Rattle.scm_record.specs.Session.{start}
use Rattle.scm_front.specs.declared.layer.Front.{Front}
use Rattle.scm_front.specs.declared.starting.Folds.{Folds}
use Rattle.scm_front.specs.Asking.{new_query}
use Rattle.scm_front.specs.Keeping.{IsNew}
use Rattle.scm_front_paint.specs.declared.themes.Theme.{Theme}
use Rattle.scm_front_paint.specs.declared.view.ViewTurn.{ViewTurn}
use Rattle.scm_front_paint.specs.Seen.{Seen}
use Rattle.scm_front_paint.specs.Views.{IsFitted}
use Rattle.scm_json.specs.Form.{state_of}
use Rattle.serde_json.specs.Read.{read}
use Rattle.scm_open_session.specs.declared.open_session.OpenSession.{OpenSession}
use Rattle.scm_open_session.specs.declared.open_session.Stage.{Stage}
use Rattle.scm_open_session.specs.declared.open_session.Stage.TheVariants.{Building, Waiting, Editing, Accepted, Ended}
use Rattle.scm_open_session.specs.declared.painters.Painters.{Painters}
use Rattle.scm_open_session.specs.declared.running.Running.TheVariants as running
use Rattle.scm_open_session.specs.Building.{is_building}
use Rattle.scm_open_session.specs.Layered.{ViewSets}
use Rattle.scm_open_session.specs.Painters.{AreNew, HaveTheme}
use Rattle.scm_open_session.specs.Results.{code_where}
use Rattle.scm_open_session.specs.Running.{is_edit_layered, is_layered}
use Rattle.scm_open_session.specs.Stages.{ChangesStage, stage_of_view}

-- ---- how a session begins with a layer

-- A new view of a state, on a terminal of `width` columns and `height` rows. The last row is the status row.
pub record IsNewView (state : RecordState) (width height : ℕ) (v : Seen) : Type 0 where
  -- the front, with a session that waits for its first event
  pub front : Front
  pub beneath : front.beneath ≡ record { session = start state; kind = Testing width (height - 1) }
  pub query : front.query ≡ new_query
  pub kept : IsNew front.kept
  -- it is shown from the first column on
  pub shown : IsFitted v.pane front v.front
  pub pane : v.pane ≡ record { x = 0; width = width; height = height }

-- The stage and the code of `gabro_begin_layer`: as those of `gabro_begin`, with a view.
pub data StartsView (width height : ℕ) : Stage → Stage → ℕ → Type 0 where
  started : {state : RecordState} {v : Seen} → IsTrue (is_accepted_state state)
      → IsNewView state (min width 1000) (min height 1000) v
      → StartsView width height (Building state) (Waiting (running.Layered v)) 0
  not_accepted : {state : RecordState} → is_accepted_state state ≡ false → StartsView width height (Building state) (Building state) 6
  no_memory : {state : RecordState} → IsTrue (is_accepted_state state) → StartsView width height (Building state) (Ended OutOfMemory) 8
  not_building : {stage : Stage} → is_building stage ≡ false → StartsView width height stage stage 2

-- `gabro_begin_layer` on a session, with its code.
pub data StartsLayer (width height : ℕ) : Option OpenSession → Option OpenSession → ℕ → Type 0 where
  closed : StartsLayer width height None None 1
  open_one : {old new : OpenSession} {code : ℕ} → StartsView width height old.stage new.stage code → new.decoder ≡ old.decoder
      → new.painter ≡ old.painter → StartsLayer width height (Some old) (Some new) code

-- A new session with a layer over the state with the JSON form `json`. Nothing was typed and nothing is painted.
pub record BeginsLayer (json : List ℕ) (width height : ℕ) (inner : OpenSession) : Type 0 where
  -- the state
  pub given : RecordState
  -- the JSON is its form
  pub form : option_and_then state_of (read json) ≡ Some given
  -- it passes no limit
  pub accepted : IsTrue (is_accepted_state given)
  -- the session waits for its first event
  pub view : Seen
  pub begun : inner.stage ≡ Waiting (running.Layered view)
  pub new_view : IsNewView given (min width 1000) (min height 1000) view
  -- the decoder has heard no bytes
  pub unheard : HasHeard inner.decoder false []
  -- nothing counts as painted
  pub unpainted : AreNew inner.painter

-- ---- what a session is painted with

-- Whether a session at this stage has a layer.
abbrev pub has_layer : Stage → Bool
has_layer (Building state) = false
has_layer (Waiting s) = is_layered s
has_layer (Editing a) = is_edit_layered a
has_layer (Accepted state) = false
has_layer (Ended error) = false

-- What an open session is painted with changes by `Goes`. Its stage and its decoder stay.
pub data ChangesPainters (Goes : Painters → Painters → Type 0) : Option OpenSession → Option OpenSession → Type 0 where
  changes_painters : {old new : OpenSession} → Goes old.painter new.painter → new.stage ≡ old.stage → new.decoder ≡ old.decoder
      → ChangesPainters Goes (Some old) (Some new)

-- The code of a call that needs a session with a layer.
abbrev pub code_of_layer : Option OpenSession → ℕ
code_of_layer inner = code_where has_layer inner

-- The theme of a session changes. Without a theme this is false.
abbrev pub HasTheme : Option Theme → Option OpenSession → Option OpenSession → Type 0
HasTheme None old new = ⊥
HasTheme (Some theme) old new = ChangesPainters (HaveTheme theme) old new

-- ---- the start

-- Whether a session at this stage has a layer, and waits for an event.
abbrev pub is_view : Stage → Bool
is_view (Building state) = false
is_view (Waiting s) = is_layered s
is_view (Editing a) = false
is_view (Accepted state) = false
is_view (Ended error) = false

-- What `folds` says and the selection `first` are set by calls of the session beneath, or an allocation failed.
pub data SetsStart (folds : Folds) (first : SelectionKey) : Stage → Stage → Type 0 where
  turned : {v : Seen} (turn : ViewTurn) → ViewSets folds first v turn → SetsStart folds first (Waiting (running.Layered v)) (stage_of_view (Ok turn))
  failed : {v : Seen} → SetsStart folds first (Waiting (running.Layered v)) (Ended OutOfMemory)

-- The same of a session, for the folds with a number. Without such folds this is false.
abbrev pub HasStart : Option Folds → SelectionKey → Option OpenSession → Option OpenSession → Type 0
HasStart None first old new = ⊥
HasStart (Some folds) first old new = ChangesStage (SetsStart folds first) old new
