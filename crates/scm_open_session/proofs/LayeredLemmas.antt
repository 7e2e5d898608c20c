-- How calls change a view.
use Rattle.std.proofs.Common.{◌≡◌, List, Result, IfOk, IfErr, Ok, Err, subst}
use Rattle.scm_errors.specs.declared.error.RecordError.{RecordError}
use Rattle.scm_errors.specs.declared.error.RecordError.TheVariants.{OutOfMemory}
use Rattle.scm_types.specs.declared.keys.SelectionKey.{SelectionKey}
use Rattle.scm_input.specs.declared.events.Event.{Event}
use Rattle.scm_record.specs.LiveCalls.{BatchFails, BatchLeads, Call, EventFails, EventLeads, Path}
use Rattle.scm_record.specs.declared.live.Turn.TheVariants as turns
use Rattle.scm_front.specs.declared.layer.Front.{Front}
use Rattle.scm_front.specs.declared.layer.FrontTurn.{FrontTurn}
use Rattle.scm_front.specs.Fronts.{IsGiven, beneath_of, front_of}
use Rattle.scm_front.specs.Starting.{Starts}
use Rattle.scm_front.specs.declared.starting.Folds.{Folds}
use Rattle.scm_front_paint.specs.declared.pane.Pane.{Pane}
use Rattle.scm_front_paint.specs.declared.view.ViewTurn.{ViewTurn}
use Rattle.scm_front_paint.specs.Seen.{Seen}
use Rattle.scm_front_paint.specs.Views.{IsShown}
use Rattle.scm_open_session.specs.Layered.{OrRefused, ViewPresses, ViewPressesAll, ViewSets}

-- what comes of an event is shown, or the terminal's screen cannot be drawn

pub pressed : (v : Seen) (event : Event) (front : Front) (pane : Pane) (middle : FrontTurn) (r : Result ViewTurn RecordError)
    → front ≡ v.front → pane ≡ v.pane → EventLeads front.beneath event (beneath_of middle) → IsGiven front middle → IfOk r (λ turn. IsShown pane middle turn)
    → IfOk r (λ turn. ViewPresses v event turn)
pressed v event front pane middle (Ok turn) e f d g s = record {
  middle = middle;
  leads = subst (λ (x : Front). EventLeads x.beneath event (beneath_of middle)) e d;
  given = subst (λ (x : Front). IsGiven x middle) e g;
  shown = subst (λ (p : Pane). IsShown p middle turn) f s;
}
pressed v event front pane middle (Err error) e f d g s = tt

pub pressed_all : (v : Seen) (list : List Event) (front : Front) (pane : Pane) (middle : FrontTurn) (r : Result ViewTurn RecordError)
    → front ≡ v.front → pane ≡ v.pane → BatchLeads front.beneath list (beneath_of middle) → IsGiven front middle
    → IfOk r (λ turn. IsShown pane middle turn) → IfOk r (λ turn. ViewPressesAll v list turn)
pressed_all v list front pane middle (Ok turn) e f d g s = record {
  middle = middle;
  leads = subst (λ (x : Front). BatchLeads x.beneath list (beneath_of middle)) e d;
  given = subst (λ (x : Front). IsGiven x middle) e g;
  shown = subst (λ (p : Pane). IsShown p middle turn) f s;
}
pressed_all v list front pane middle (Err error) e f d g s = tt

pub set_at : (folds : Folds) (first : SelectionKey) (v : Seen) (front : Front) (pane : Pane) (middle : FrontTurn) (calls : List Call) (r : Result ViewTurn RecordError)
    → front ≡ v.front → pane ≡ v.pane → Path (turns.Waiting front.beneath) calls (beneath_of middle) → Starts folds front.beneath first (beneath_of middle)
    → middle ≡ front_of (beneath_of middle) front.query front.kept → IfOk r (λ turn. IsShown pane middle turn) → IfOk r (λ turn. ViewSets folds first v turn)
set_at folds first v front pane middle calls (Ok turn) e f d begins keeps s = record {
  middle = middle;
  calls = calls;
  path = subst (λ (x : Front). Path (turns.Waiting x.beneath) calls (beneath_of middle)) e d;
  starts = subst (λ (x : Front). Starts folds x.beneath first (beneath_of middle)) e begins;
  kept = subst (λ (x : Front). middle ≡ front_of (beneath_of middle) x.query x.kept) e keeps;
  shown = subst (λ (p : Pane). IsShown p middle turn) f s;
}
set_at folds first v front pane middle calls (Err error) e f d begins keeps s = tt

-- errors

pub not_shown : (Fails : RecordError → Type 0) (r : Result ViewTurn RecordError) → IfErr r (λ e. e ≡ OutOfMemory) → IfErr r (λ e. OrRefused Fails e)
not_shown Fails (Ok turn) h = tt
not_shown Fails (Err error) h = OrRefused.refused h

pub press_fails : (v : Seen) (event : Event) (front : Front) (error : RecordError) → front ≡ v.front → EventFails front.beneath event error
    → OrRefused (EventFails v.front.beneath event) error
press_fails v event front error e h = OrRefused.failed (subst (λ (x : Front). EventFails x.beneath event error) e h)

pub batch_fails : (v : Seen) (list : List Event) (front : Front) (error : RecordError) → front ≡ v.front → BatchFails front.beneath list error
    → OrRefused (BatchFails v.front.beneath list) error
batch_fails v list front error e h = OrRefused.failed (subst (λ (x : Front). BatchFails x.beneath list error) e h)
