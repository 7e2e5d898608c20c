-- What calls add to a state that is made, and how a session begins with it.
use Rattle.std.specs.Prelude.{◌≡◌, ℕ, [], Bool, true, false, IsTrue, Option, Some, None, if◌then◌else◌}
use Rattle.scm_errors.specs.declared.error.RecordError.TheVariants.{OutOfMemory}
use Rattle.scm_types.specs.declared.state.RecordState.{RecordState}
use Rattle.scm_types.specs.Limits.{is_accepted_state}
use Rattle.scm_input.specs.declared.inputs.TerminalKind.{TerminalKind}
use Rattle.scm_terminal.specs.Decoders.{HasHeard}
use Rattle.scm_record.specs.Session.{start}
use Rattle.scm_embed.specs.declared.addition.Addition.{Addition}
use Rattle.scm_embed.specs.Additions.{after_addition, empty_state, refusal_of}
use Rattle.scm_open_session.specs.declared.open_session.OpenSession.{OpenSession}
use Rattle.scm_open_session.specs.declared.open_session.Stage.{Stage}
use Rattle.scm_open_session.specs.declared.open_session.Stage.TheVariants.{Building, Waiting, Editing, Accepted, Ended}
use Rattle.scm_open_session.specs.declared.running.Running.TheVariants as running
use Rattle.scm_open_session.specs.Painters.{AreNew}
use Rattle.scm_open_session.specs.Stages.{ChangesStage}
use Rattle.scm_c_values.specs.Codes.{code_of_refusal}
use Rattle.scm_c_values.specs.Texts.{GivenChange, AddsFile, code_of_length, has_text_paths}

-- ---- codes

-- The code of an addition at a stage.
abbrev pub code_at_stage : Addition → Stage → ℕ
code_at_stage addition (Building state) = code_of_refusal (refusal_of addition state)
code_at_stage addition (Waiting l) = 2
code_at_stage addition (Editing a) = 2
code_at_stage addition (Accepted state) = 2
code_at_stage addition (Ended error) = 2

-- The code of an addition to the state of a session. None is of bytes that are not UTF-8.
abbrev pub code_of_addition : Option Addition → Option OpenSession → ℕ
code_of_addition None inner = 4
code_of_addition (Some addition) None = 1
code_of_addition (Some addition) (Some inner) = code_at_stage addition inner.stage

-- ---- how a state grows

-- An addition changes the state that is made.
pub data Builds (addition : Addition) : Stage → Stage → Type 0 where
  built : {state : RecordState} → Builds addition (Building state) (Building (after_addition addition state))

-- The state of a session grows by an addition. Without an addition this is false.
abbrev pub Adds : Option Addition → Option OpenSession → Option OpenSession → Type 0
Adds None old new = ⊥
Adds (Some addition) old new = ChangesStage (Builds addition) old new

-- A session over a state without commits and files, which is made by later calls. Nothing was typed and nothing is painted.
pub record BeginsState (is_read_only : Bool) (inner : OpenSession) : Type 0 where
  -- the state
  pub begun : inner.stage ≡ Building (empty_state is_read_only)
  -- the decoder has heard no bytes
  pub unheard : HasHeard inner.decoder false []
  -- nothing counts as painted
  pub unpainted : AreNew inner.painter

-- ---- how a session begins with the state

-- Whether the state of a session is made now.
abbrev pub is_building : Stage → Bool
is_building (Building state) = true
is_building (Waiting l) = false
is_building (Editing a) = false
is_building (Accepted state) = false
is_building (Ended error) = false

-- The stage and the code of `gabro_begin`: the session waits for its first event, the state passes a limit and stays, or an
-- allocation failed and the session has ended.
pub data Starts (kind : TerminalKind) : Stage → Stage → ℕ → Type 0 where
  started : {state : RecordState} → IsTrue (is_accepted_state state)
      → Starts kind (Building state) (Waiting (running.Plain (record { session = start state; kind = kind }))) 0
  not_accepted : {state : RecordState} → is_accepted_state state ≡ false → Starts kind (Building state) (Building state) 6
  no_memory : {state : RecordState} → IsTrue (is_accepted_state state) → Starts kind (Building state) (Ended OutOfMemory) 8
  not_building : {stage : Stage} → is_building stage ≡ false → Starts kind stage stage 2

-- `gabro_begin` on a session, with its code.
pub data StartsSession (kind : TerminalKind) : Option OpenSession → Option OpenSession → ℕ → Type 0 where
  closed : StartsSession kind None None 1
  open_one : {old new : OpenSession} {code : ℕ} → Starts kind old.stage new.stage code → new.decoder ≡ old.decoder
      → new.painter ≡ old.painter → StartsSession kind (Some old) (Some new) code

-- ---- files of two versions

-- The code of a change at a stage, if its paths are UTF-8.
abbrev pub code_of_change_at : GivenChange → Stage → ℕ
code_of_change_at c (Building state) = code_of_length c
code_of_change_at c (Waiting l) = 2
code_of_change_at c (Editing a) = 2
code_of_change_at c (Accepted state) = 2
code_of_change_at c (Ended error) = 2

-- The code of a change of an open session, if its paths are UTF-8.
abbrev pub code_of_text_change : GivenChange → Option OpenSession → ℕ
code_of_text_change c None = 1
code_of_text_change c (Some inner) = code_of_change_at c inner.stage

-- The code of a change.
abbrev pub code_of_change : GivenChange → Option OpenSession → ℕ
code_of_change c inner = if has_text_paths c then code_of_text_change c inner else 4

-- A file that shows the change is added to the state that is made.
pub data BuildsChange (c : GivenChange) : Stage → Stage → Type 0 where
  built_change : {old new : RecordState} → AddsFile c old new → BuildsChange c (Building old) (Building new)
