-- What calls return to C: codes, and texts.
use Rattle.std.specs.Prelude.{◌≡◌, ℕ, ◌==◌, Bool, true, false, List, [], length, Option, Some, None, ⊤, unwrap_or}
use Rattle.scm_cells.specs.Screen.{view_of}
use Rattle.scm_cells.specs.Symbols.{symbol_at}
use Rattle.scm_input.specs.declared.events.Event.{Event}
use Rattle.scm_record.specs.Session.{message_of}
use Rattle.scm_front_paint.specs.Below.{rows_shown}
use Rattle.scm_front_paint.specs.StatusRow.{rows_beneath, symbol_of_view, text_of_view}
use Rattle.scm_open_session.specs.declared.painters.Painters.{Painters}
use Rattle.scm_open_session.specs.declared.running.Running.{Running}
use Rattle.scm_open_session.specs.declared.running.Running.TheVariants as running
use Rattle.scm_open_session.specs.Running.{edit_of}
use Rattle.scm_open_session.specs.Stages.{is_waiting, is_editing}
use Rattle.scm_open_session.specs.declared.open_session.OpenSession.{OpenSession}
use Rattle.scm_open_session.specs.declared.open_session.Stage.{Stage}
use Rattle.scm_open_session.specs.declared.open_session.Stage.TheVariants.{Building, Waiting, Editing, Accepted, Ended}
use Rattle.scm_c_values.specs.Codes.{done_code, code_of_message}
use Rattle.scm_c_values.specs.Ends.{sentence_of}
use Rattle.scm_c_values.specs.Buffers.{over}

-- ---- the codes of calls

-- The code of a call that needs an open session at a stage where `is_due` is true.
abbrev pub code_where : (Stage → Bool) → Option OpenSession → ℕ
code_where is_due None = 1
code_where is_due (Some inner) = done_code (is_due inner.stage)

-- The code of a call that needs a session that waits for an event.
abbrev pub code_of_call : Option OpenSession → ℕ
code_of_call inner = code_where is_waiting inner

-- The code of a call that needs an open session, at any stage.
abbrev pub code_of_repaint : Option OpenSession → ℕ
code_of_repaint None = 1
code_of_repaint (Some inner) = 0

-- Whether a session is open and waits for an event.
abbrev pub is_session_waiting : Option OpenSession → Bool
is_session_waiting None = false
is_session_waiting (Some inner) = is_waiting inner.stage

-- The code of `gabro_press` for the event of a word, if any.
abbrev pub code_of_press : Option Event → Option OpenSession → ℕ
code_of_press None inner = 3
code_of_press (Some event) inner = code_of_call inner

-- The code of `gabro_answer`, which needs a session that waits for a message.
abbrev pub code_of_answer : List ℕ → Option OpenSession → ℕ
code_of_answer text inner = code_of_message text (code_where is_editing inner)

-- ---- the symbol of a place

-- The symbol that begins at `row`, `column` of the terminal. With a layer the row below the session's rows is the status row.
abbrev pub symbol_of_running : Running → Painters → ℕ → ℕ → List ℕ
symbol_of_running (running.Plain l) painters row column = unwrap_or (symbol_at (rows_beneath l) row column) []
symbol_of_running (running.Layered v) painters row column = symbol_of_view v painters.accept row column

-- The symbol that begins at `row`, `column` of the screen. Empty unless the session waits for an event.
abbrev pub symbol_of_stage : Stage → Painters → ℕ → ℕ → List ℕ
symbol_of_stage (Building state) painters row column = []
symbol_of_stage (Waiting s) painters row column = symbol_of_running s painters row column
symbol_of_stage (Editing a) painters row column = []
symbol_of_stage (Accepted state) painters row column = []
symbol_of_stage (Ended error) painters row column = []

-- The symbol that begins at `row`, `column` of a session's screen. Empty if the session is closed.
abbrev pub symbol_of_session : Option OpenSession → ℕ → ℕ → List ℕ
symbol_of_session None row column = []
symbol_of_session (Some inner) row column = symbol_of_stage inner.stage inner.painter row column

-- Whether `row` is the status row.
abbrev pub is_status_row_of : Running → ℕ → Bool
is_status_row_of (running.Plain l) row = false
is_status_row_of (running.Layered v) row = row == rows_shown v.front.beneath

-- Whether `row` is the status row of a session that waits for an event.
abbrev pub is_status_row_at : Stage → ℕ → Bool
is_status_row_at (Building state) row = false
is_status_row_at (Waiting s) row = is_status_row_of s row
is_status_row_at (Editing a) row = false
is_status_row_at (Accepted state) row = false
is_status_row_at (Ended error) row = false

-- Whether `row` is the status row of an open session.
abbrev pub is_status_row : Option OpenSession → ℕ → Bool
is_status_row None row = false
is_status_row (Some inner) row = is_status_row_at inner.stage row

-- A symbol is written over the buffer, and its whole length is told.
pub record WritesSymbol (symbol old new : List ℕ) (told : ℕ) : Type 0 where
  pub length_told : told ≡ length symbol
  pub written : new ≡ over symbol old

-- The symbol is written, or if that may fail, none: an allocation failed.
pub data WritesOrFails (may_fail : Bool) (symbol old new : List ℕ) (told : ℕ) : Type 0 where
  writes : WritesSymbol symbol old new told → WritesOrFails may_fail symbol old new told
  fails : may_fail ≡ true → WritesSymbol [] old new told → WritesOrFails may_fail symbol old new told

-- ---- the text of a stage

-- The text of a session that waits for an event: the rows of its screen, and with a layer the status row below them.
abbrev pub text_of_running : Running → Painters → List ℕ
text_of_running (running.Plain l) painters = view_of (rows_beneath l)
text_of_running (running.Layered v) painters = text_of_view v painters.accept

-- The text of a stage: that of the screen, the message to edit, or the error's sentence. It is empty while a state is made. For an accepted state it is
-- any text: no contract says what the writer of JSON writes.
abbrev pub IsText : Stage → Painters → List ℕ → Type 0
IsText (Building state) painters text = text ≡ []
IsText (Waiting s) painters text = text ≡ text_of_running s painters
IsText (Editing a) painters text = text ≡ unwrap_or (message_of (edit_of a).session (edit_of a).commit) []
IsText (Accepted state) painters text = ⊤
IsText (Ended error) painters text = text ≡ sentence_of error

-- The text that `gabro_text` reads: that of the stage of an open session.
pub data IsRead : Option OpenSession → List ℕ → Type 0 where
  of_stage : {inner : OpenSession} {bytes : List ℕ} → IsText inner.stage inner.painter bytes → IsRead (Some inner) bytes

-- `gabro_text` writes the text that it reads over the buffer, and tells its whole length.
pub record Writes (inner : Option OpenSession) (old new : List ℕ) (told : ℕ) : Type 0 where
  -- the text
  pub text : List ℕ
  -- it is read from the session
  pub is_read : IsRead inner text
  -- its whole length is told
  pub length_told : told ≡ length text
  -- the buffer begins with it
  pub written : new ≡ over text old
