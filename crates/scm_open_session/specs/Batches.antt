-- Words of scripts that are handed in as one batch: what comes of them.
use Rattle.std.specs.Prelude.{ℕ, List, Option, Some, None, Ok}
use Rattle.scm_errors.specs.declared.error.RecordError.{RecordError}
use Rattle.scm_input.specs.declared.events.Event.{Event}
use Rattle.scm_record.specs.Live.{Live}
use Rattle.scm_record.specs.LiveCalls.{BatchLeads, BatchFails}
use Rattle.scm_record.specs.declared.live.Turn.{Turn}
use Rattle.scm_front_paint.specs.declared.view.ViewTurn.{ViewTurn}
use Rattle.scm_front_paint.specs.Seen.{Seen}
use Rattle.scm_open_session.specs.declared.open_session.OpenSession.{OpenSession}
use Rattle.scm_open_session.specs.declared.running.Running.TheVariants as running
use Rattle.scm_open_session.specs.declared.open_session.Stage.{Stage}
use Rattle.scm_open_session.specs.declared.open_session.Stage.TheVariants.{Waiting, Ended}
use Rattle.scm_open_session.specs.Layered.{OrRefused, ViewPressesAll}
use Rattle.scm_open_session.specs.Stages.{ChangesStage, stage_after, stage_of_view}
use Rattle.scm_open_session.specs.Results.{code_of_call}

-- ---- codes

-- The code of `gabro_press_all` for the events of its words, if each has one.
abbrev pub code_of_batch : Option (List Event) → Option OpenSession → ℕ
code_of_batch None inner = 3
code_of_batch (Some events) inner = code_of_call inner

-- ---- stages

-- A batch of events changes the stage as the contract of `LiveSession::handle_all` says: it is one read of a run.
pub data PressesAll (events : List Event) : Stage → Stage → Type 0 where
  turned : {l : Live} (turn : Turn) → BatchLeads l events turn → PressesAll events (Waiting (running.Plain l)) (stage_after (Ok turn))
  failed : {l : Live} {error : RecordError} → BatchFails l events error → PressesAll events (Waiting (running.Plain l)) (Ended error)
  layer_turned : {v : Seen} (turn : ViewTurn) → ViewPressesAll v events turn
      → PressesAll events (Waiting (running.Layered v)) (stage_of_view (Ok turn))
  layer_failed : {v : Seen} {error : RecordError} → OrRefused (BatchFails v.front.beneath events) error
      → PressesAll events (Waiting (running.Layered v)) (Ended error)

-- The stage changes by a batch of events. Without events this is false.
abbrev pub HandsInAll : Option (List Event) → Option OpenSession → Option OpenSession → Type 0
HandsInAll None old new = ⊥
HandsInAll (Some events) old new = ChangesStage (PressesAll events) old new
