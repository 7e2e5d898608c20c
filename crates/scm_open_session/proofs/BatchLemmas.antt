-- The events of words that are handed in as one batch.
use Rattle.std.proofs.Common.{◌≡◌, ℕ, List, true, Option, Some, None, Result, Ok, Err, IfOk, IfErr, subst}
use Rattle.scm_errors.specs.declared.error.RecordError.{RecordError}
use Rattle.scm_input.specs.declared.events.Event.{Event}
use Rattle.scm_record.specs.Live.{Live}
use Rattle.scm_record.specs.LiveCalls.{BatchLeads, BatchFails}
use Rattle.scm_record.specs.declared.live.Turn.{Turn}
use Rattle.scm_open_session.specs.declared.open_session.OpenSession.{OpenSession}
use Rattle.scm_open_session.specs.declared.open_session.Stage.{Stage}
use Rattle.scm_open_session.specs.declared.open_session.Stage.TheVariants.{Waiting}
use Rattle.scm_open_session.specs.declared.running.Running.{Running}
use Rattle.scm_open_session.specs.declared.running.Running.TheVariants as running
use Rattle.scm_open_session.specs.Stages.{ChangesStage, stage_after, stage_of_view}
use Rattle.scm_front_paint.specs.declared.view.ViewTurn.{ViewTurn}
use Rattle.scm_front_paint.specs.Seen.{Seen}
use Rattle.scm_open_session.specs.Layered.{OrRefused, ViewPressesAll}
use Rattle.scm_c_values.specs.Codes.{IsCode, code_of_words}
use Rattle.scm_open_session.specs.Results.{code_of_call}
use Rattle.scm_open_session.specs.Batches.{HandsInAll, PressesAll, code_of_batch}

-- ---- a batch

pub batch_code : (given : Option (List Event)) (items : List Event) (inner : Option OpenSession) (code : ℕ) → given ≡ Some items
    → code ≡ code_of_call inner → IsCode true (code_of_batch given inner) code
batch_code given items inner code e g = rw (e, g) IsCode.known

pub batch_refused : (given : Option (List Event)) (inner : Option OpenSession) (code : ℕ) → IsCode true (code_of_words given (code_of_call inner)) code
    → IsCode true (code_of_batch given inner) code
batch_refused None inner code is = is
batch_refused (Some events) inner code is = is

pub batch_in : (given : Option (List Event)) (items slice : List Event) (old new : Option OpenSession) → given ≡ Some items → slice ≡ items
    → ChangesStage (PressesAll slice) old new → HandsInAll given old new
batch_in given items slice old new e f goes = rw e (subst (λ (l : List Event). ChangesStage (PressesAll l) old new) f goes)

-- ---- stages

presses-by : (list : List Event) (l : Live) (r : Result Turn RecordError) → IfOk r (λ turn. BatchLeads l list turn) → IfErr r (λ e. BatchFails l list e)
    → PressesAll list (Waiting (running.Plain l)) (stage_after r)
presses-by list l (Ok turn) h k = PressesAll.turned turn h
presses-by list l (Err error) h k = PressesAll.failed k

pub presses_all : (list : List Event) (l : Live) (r : Result Turn RecordError) (s : Running) (new : Stage) → s ≡ running.Plain l → new ≡ stage_after r
    → IfOk r (λ turn. BatchLeads l list turn) → IfErr r (λ e. BatchFails l list e) → PressesAll list (Waiting s) new
presses_all list l r s new e f h k = rw (e, f) (presses-by list l r h k)

view-presses-by : (list : List Event) (v : Seen) (r : Result ViewTurn RecordError) → IfOk r (λ turn. ViewPressesAll v list turn)
    → IfErr r (λ e. OrRefused (BatchFails v.front.beneath list) e) → PressesAll list (Waiting (running.Layered v)) (stage_of_view r)
view-presses-by list v (Ok turn) h k = PressesAll.layer_turned turn h
view-presses-by list v (Err error) h k = PressesAll.layer_failed k

pub view_presses_all : (list : List Event) (v : Seen) (r : Result ViewTurn RecordError) (s : Running) (new : Stage) → s ≡ running.Layered v → new ≡ stage_of_view r
    → IfOk r (λ turn. ViewPressesAll v list turn) → IfErr r (λ e. OrRefused (BatchFails v.front.beneath list) e) → PressesAll list (Waiting s) new
view_presses_all list v r s new e f h k = rw (e, f) (view-presses-by list v r h k)
