-- The marks of a file, and the selection of an item, by calls.
use Rattle.std.proofs.Common.{◌≡◌, ℕ, List, Bool, Option, Some, None, refl, sym, ap, ◌∙◌, subst}
use Rattle.scm_types.specs.declared.state.RecordState.{RecordState}
use Rattle.scm_types.specs.declared.keys.SelectionKey.{SelectionKey}
use Rattle.scm_errors.specs.declared.error.RecordError.{RecordError}
use Rattle.scm_errors.specs.declared.error.RecordError.TheVariants.{OutOfMemory}
use Rattle.scm_embed.specs.Marked.{fits_marks, marked_state}
use Rattle.scm_record.specs.Jumps.{after_selecting}
use Rattle.scm_record.specs.Live.{Live}
use Rattle.scm_c_values.specs.Codes.{code_of_fit}
use Rattle.scm_open_session.specs.declared.open_session.OpenSession.{OpenSession}
use Rattle.scm_open_session.specs.declared.open_session.Stage.{Stage}
use Rattle.scm_open_session.specs.declared.open_session.Stage.TheVariants.{Building, Waiting, Editing, Accepted, Ended}
use Rattle.scm_open_session.specs.declared.running.Running.{Running}
use Rattle.scm_open_session.specs.declared.running.Running.TheVariants as running
use Rattle.scm_open_session.specs.Marking.{SetsMarks, code_of_marks, code_of_marks_at}
use Rattle.scm_open_session.specs.Selecting.{Selects, code_of_select, code_of_select_at}

-- marks

pub sets_marks : (file : ℕ) (bytes : List ℕ) (old new : Stage) (state after : RecordState) → old ≡ Building state → new ≡ Building after
    → after ≡ marked_state file bytes state → SetsMarks file bytes old new
sets_marks file bytes old new state after e f g = rw (e, f) (rw g SetsMarks.set_marks)

pub marks_code : (file : ℕ) (bytes : List ℕ) (old : Stage) (state : RecordState) (answer : ℕ) → old ≡ Building state
    → answer ≡ code_of_fit (fits_marks file bytes state) → answer ≡ code_of_marks_at file bytes old
marks_code file bytes old state answer e code = rw e code

pub marks_session_code : (file : ℕ) (bytes : List ℕ) (old : Option OpenSession) (h before : OpenSession) (answer : ℕ) → old ≡ Some h → before ≡ h
    → answer ≡ code_of_marks_at file bytes before.stage → answer ≡ code_of_marks file bytes old
marks_session_code file bytes old h before answer e f code = rw e (subst (λ (x : OpenSession). answer ≡ code_of_marks_at file bytes x.stage) f code)

-- selections

pub selects_plain : (key : SelectionKey) (l next : Live) → next ≡ after_selecting l key → Selects key (Waiting (running.Plain l)) (Waiting (running.Plain next))
selects_plain key l next e = rw e Selects.selected

pub selects_not : (key : SelectionKey) (l : Live) (error : RecordError) → error ≡ OutOfMemory → Selects key (Waiting (running.Plain l)) (Ended error)
selects_not key l error e = rw e Selects.failed

pub select_no_event : (key : SelectionKey) (s : Stage) → ((r : Running) → s ≡ Waiting r → ⊥) → 2 ≡ code_of_select_at key s
select_no_event key (Building state) n = refl
select_no_event key (Waiting r) n = absurd (n r refl)
select_no_event key (Editing a) n = refl
select_no_event key (Accepted state) n = refl
select_no_event key (Ended error) n = refl

pub select_session_code : (key : SelectionKey) (old : Option OpenSession) (h before : OpenSession) (answer : ℕ) → old ≡ Some h → before ≡ h
    → answer ≡ code_of_select_at key before.stage → answer ≡ code_of_select key old
select_session_code key old h before answer e f code = rw e (subst (λ (x : OpenSession). answer ≡ code_of_select_at key x.stage) f code)
