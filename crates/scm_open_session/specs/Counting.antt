-- How many events of a batch a call handled: of sessions without a layer.
use Rattle.std.specs.Prelude.{◌≡◌, ℕ, List, Bool, false, not, Option, Some, None}
use Rattle.scm_errors.specs.declared.error.RecordError.TheVariants.{OutOfMemory}
use Rattle.scm_input.specs.declared.events.Event.{Event}
use Rattle.scm_record.specs.Frames.{IsSceneOf, Scene}
use Rattle.scm_record.specs.HandledCount.{batch_count, rest_count}
use Rattle.scm_record.specs.Live.{Live, LiveEdit}
use Rattle.scm_open_session.specs.declared.open_session.OpenSession.{OpenSession}
use Rattle.scm_open_session.specs.declared.open_session.Stage.{Stage}
use Rattle.scm_open_session.specs.declared.open_session.Stage.TheVariants.{Building, Waiting, Editing, Accepted, Ended}
use Rattle.scm_open_session.specs.declared.running.Running.TheVariants as running
use Rattle.scm_open_session.specs.declared.running.MessageEdit.TheVariants as edits
use Rattle.scm_open_session.specs.Batches.{PressesAll}
use Rattle.scm_open_session.specs.Results.{code_where}
use Rattle.scm_open_session.specs.Running.{is_edit_layered, is_layered}
use Rattle.scm_open_session.specs.Stages.{ChangesStage, Says}

-- ---- batches

-- Whether a session at this stage waits for an event, and has no layer.
abbrev pub is_plain_waiting : Stage → Bool
is_plain_waiting (Building state) = false
is_plain_waiting (Waiting s) = not (is_layered s)
is_plain_waiting (Editing a) = false
is_plain_waiting (Accepted state) = false
is_plain_waiting (Ended error) = false

-- The number of events of a batch that a session without a layer handles. If an allocation failed, it may be 0 instead.
pub data CountsBatch (events : List Event) (handled : ℕ) : Stage → Stage → Type 0 where
  counted : {l : Live} {new : Stage} → handled ≡ batch_count l events → CountsBatch events handled (Waiting (running.Plain l)) new
  lost : {l : Live} → handled ≡ 0 → CountsBatch events handled (Waiting (running.Plain l)) (Ended OutOfMemory)

-- A batch of events changes the stage, and `handled` of them are handled.
pub record PressesAndCounts (events : List Event) (handled : ℕ) (old new : Stage) : Type 0 where
  pub pressed : PressesAll events old new
  pub number : CountsBatch events handled old new

-- The code of `gabro_press_and_count` for the events of its words, if each has one.
abbrev pub code_of_counted : Option (List Event) → Option OpenSession → ℕ
code_of_counted None inner = 3
code_of_counted (Some events) inner = code_where is_plain_waiting inner

-- The stage changes by a batch of events, which are counted. Without events this is false.
abbrev pub HandsInAndCounts : Option (List Event) → ℕ → Option OpenSession → Option OpenSession → Type 0
HandsInAndCounts None handled old new = ⊥
HandsInAndCounts (Some events) handled old new = ChangesStage (PressesAndCounts events handled) old new

-- ---- messages

-- Whether a session at this stage waits for a message, and has no layer.
abbrev pub is_plain_editing : Stage → Bool
is_plain_editing (Building state) = false
is_plain_editing (Waiting s) = false
is_plain_editing (Editing a) = not (is_edit_layered a)
is_plain_editing (Accepted state) = false
is_plain_editing (Ended error) = false

-- The number of events of the rest of its batch that a session without a layer handles after a message. If an allocation failed,
-- it may be 0 instead.
pub data CountsRest (text : List ℕ) (handled : ℕ) : Stage → Stage → Type 0 where
  counted : {a : LiveEdit} {new : Stage} → ((scene : Scene) → IsSceneOf scene a.frame → handled ≡ rest_count scene a text)
      → CountsRest text handled (Editing (edits.Plain a)) new
  lost : {a : LiveEdit} → handled ≡ 0 → CountsRest text handled (Editing (edits.Plain a)) (Ended OutOfMemory)

-- A message changes the stage, and `handled` events of the rest of its batch are handled.
pub record SaysAndCounts (text : List ℕ) (handled : ℕ) (old new : Stage) : Type 0 where
  pub said : Says text old new
  pub number : CountsRest text handled old new
