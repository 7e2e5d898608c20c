-- The log of the calls beneath a layer, as a script.
use Rattle.std.specs.Prelude.{◌≡◌, ℕ, ◌++◌, List, [], ◌∷◌, length, Option, Some, None, IsTrue, codes}
use Rattle.std.specs.Fmt.{decimal}
use Rattle.std.specs.List.{flat_map}
use Rattle.scm_types.specs.declared.keys.SelectionKey.{SelectionKey}
use Rattle.scm_types.specs.declared.keys.SelectionKey.TheVariants as keys
use Rattle.scm_input.specs.declared.events.Event.{Event}
use Rattle.scm_input.specs.declared.inputs.TerminalKind.{TerminalKind}
use Rattle.scm_input.specs.declared.inputs.TerminalKind.TheVariants.{Testing}
use Rattle.scm_record.specs.declared.live.Turn.TheVariants as turns
use Rattle.scm_front.specs.declared.logging.Logging.{Logging}
use Rattle.scm_front.specs.declared.logging.CallLog.{CallLog}
use Rattle.scm_front.specs.declared.logging.LoggedCall.{LoggedCall}
use Rattle.scm_front.specs.declared.logging.LoggedCall.TheVariants.{Pressed, Batched, Jumped, Answered, Resized}
use Rattle.scm_front.specs.Logging.{HasLog, IsLogged}
use Rattle.scm_c_values.specs.Buffers.{over}
use Rattle.scm_c_values.specs.EventWords.{words_of_list}
use Rattle.scm_c_values.specs.Quoting.{escaped_text}
use Rattle.scm_open_session.specs.declared.open_session.OpenSession.{OpenSession}
use Rattle.scm_open_session.specs.declared.open_session.Stage.{Stage}
use Rattle.scm_open_session.specs.declared.open_session.Stage.TheVariants.{Building, Waiting, Editing, Accepted, Ended}
use Rattle.scm_open_session.specs.LayerCalls.{is_view}
use Rattle.scm_open_session.specs.Running.{edit_of, live_of}

-- ---- the script

-- The line of a batch.
abbrev pub batch_line : List Event → List ℕ
batch_line list = codes "batch " ++ (words_of_list list ++ codes "\n")

-- The line of a size.
abbrev pub size_line : TerminalKind → List ℕ
size_line (Testing width height) = codes "size " ++ (decimal width ++ (codes " " ++ (decimal height ++ codes "\n")))

-- The line of a jump: the indices of the file, of the section in it, and of the line in that. A shorter one names a section or a file.
abbrev pub select_line : SelectionKey → List ℕ
select_line keys.None = codes "select\n"
select_line (keys.File key) = codes "select " ++ (decimal key.file_idx ++ codes "\n")
select_line (keys.Section key) = codes "select " ++ (decimal key.file_idx ++ (codes " " ++ (decimal key.section_idx ++ codes "\n")))
select_line (keys.Line key) =
    codes "select "
    ++ (decimal key.file_idx ++ (codes " " ++ (decimal key.section_idx ++ (codes " " ++ (decimal key.line_idx ++ codes "\n")))))

-- The line of an answer, whose text is a string of JSON.
abbrev pub answer_line : List ℕ → List ℕ
answer_line text = codes "answer \"" ++ (escaped_text text ++ codes "\"\n")

-- The line of a call.
abbrev pub line_of : LoggedCall → List ℕ
line_of (Pressed event) = batch_line (event ∷ [])
line_of (Batched list) = batch_line list
line_of (Jumped key) = select_line key
line_of (Answered text) = answer_line text
line_of (Resized kind) = size_line kind

-- The script: the size of the screen, and a line for each call.
abbrev pub script_of : CallLog → List ℕ
script_of log = size_line log.kind ++ flat_map (λ (call : LoggedCall). line_of call) log.calls

-- ---- at a stage

-- What is logged is so of the session at this stage.
abbrev pub IsLoggedAt : Stage → Logging → Type 0
IsLoggedAt (Building state) logging = ⊥
IsLoggedAt (Waiting s) logging = IsLogged logging (turns.Waiting (live_of s))
IsLoggedAt (Editing a) logging = IsLogged logging (turns.Editing (edit_of a))
IsLoggedAt (Accepted state) logging = IsLogged logging (turns.Accepted state)
IsLoggedAt (Ended error) logging = ⊥

-- The logged calls lead to the session at this stage.
abbrev pub HasLogAt : Stage → CallLog → Type 0
HasLogAt (Building state) log = ⊥
HasLogAt (Waiting s) log = HasLog log (turns.Waiting (live_of s))
HasLogAt (Editing a) log = HasLog log (turns.Editing (edit_of a))
HasLogAt (Accepted state) log = HasLog log (turns.Accepted state)
HasLogAt (Ended error) log = ⊥

-- The text is the script of calls that lead to the session at this stage.
abbrev pub IsScriptAt : Stage → List ℕ → Type 0
IsScriptAt stage text = (log : CallLog) × HasLogAt stage log × (text ≡ script_of log)

-- ---- the calls

-- The codes of `gabro_log`. It is done only if the session waits with a layer.
pub data IsLogCode : Option OpenSession → ℕ → Type 0 where
  log_closed : IsLogCode None 1
  log_begun : {inner : OpenSession} → IsTrue (is_view inner.stage) → IsLogCode (Some inner) 0
  log_late : {inner : OpenSession} → IsLogCode (Some inner) 2

-- The codes of a script that is not to be had: there is no log, or an allocation failed.
pub data IsUnloggedCode : ℕ → Type 0 where
  unlogged : IsUnloggedCode 2
  forgotten : IsUnloggedCode 8

-- The codes of `gabro_logged`.
pub data IsLoggedCode : Option OpenSession → ℕ → Type 0 where
  logged_closed : IsLoggedCode None 1
  logged_done : {inner : OpenSession} → IsLoggedCode (Some inner) 0
  logged_not : {inner : OpenSession} {code : ℕ} → IsUnloggedCode code → IsLoggedCode (Some inner) code

-- `gabro_logged` writes the script of the calls that lead to the session over the buffer, and tells its whole length.
pub record WritesScriptOf (inner : OpenSession) (old new : List ℕ) (told : ℕ) : Type 0 where
  pub text : List ℕ
  pub is_script : IsScriptAt inner.stage text
  pub length_told : told ≡ length text
  pub written : new ≡ over text old

abbrev pub WritesScript : Option OpenSession → List ℕ → List ℕ → ℕ → Type 0
WritesScript None old new told = ⊥
WritesScript (Some inner) old new told = WritesScriptOf inner old new told
