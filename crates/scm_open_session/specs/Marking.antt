-- How a call sets the marks of a file of a state that is made.
use Rattle.std.specs.Prelude.{◌≡◌, ℕ, List, IsTrue, Option, Some, None}
use Rattle.scm_types.specs.declared.state.RecordState.{RecordState}
use Rattle.scm_embed.specs.Marked.{fits_marks, marked_state}
use Rattle.scm_c_values.specs.Codes.{code_of_fit}
use Rattle.scm_open_session.specs.declared.open_session.OpenSession.{OpenSession}
use Rattle.scm_open_session.specs.declared.open_session.Stage.{Stage}
use Rattle.scm_open_session.specs.declared.open_session.Stage.TheVariants.{Building, Waiting, Editing, Accepted, Ended}

-- The code of the call at a stage.
abbrev pub code_of_marks_at : ℕ → List ℕ → Stage → ℕ
code_of_marks_at file bytes (Building state) = code_of_fit (fits_marks file bytes state)
code_of_marks_at file bytes (Waiting l) = 2
code_of_marks_at file bytes (Editing a) = 2
code_of_marks_at file bytes (Accepted state) = 2
code_of_marks_at file bytes (Ended error) = 2

-- The code of the call on a session.
abbrev pub code_of_marks : ℕ → List ℕ → Option OpenSession → ℕ
code_of_marks file bytes None = 1
code_of_marks file bytes (Some inner) = code_of_marks_at file bytes inner.stage

-- The marks of a file of the state that is made are set, a byte for each of its items.
pub data SetsMarks (file : ℕ) (bytes : List ℕ) : Stage → Stage → Type 0 where
  set_marks : {state : RecordState} → SetsMarks file bytes (Building state) (Building (marked_state file bytes state))
