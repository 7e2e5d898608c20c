-- What calls tell after the event that accepts.
use Rattle.std.proofs.Common.{◌≡◌, ◌⊎◌, inl, inr, ℕ, suc, arith, Bool, true, false, List, [], Option, Some, None, Ok, is_some, refl, sym, ap, subst, ◌∙◌}
use Rattle.std.specs.Prelude.{if◌then◌else◌, ⊤}
use Rattle.scm_errors.specs.declared.error.RecordError.{RecordError}
use Rattle.scm_errors.specs.declared.error.RecordError.TheVariants.{OutOfMemory}
use Rattle.scm_types.specs.declared.state.RecordState.{RecordState}
use Rattle.scm_overlay.specs.declared.quit_dialog.QuitDialog.{QuitDialog}
use Rattle.scm_input.specs.declared.events.Event.TheVariants.{QuitAccept}
use Rattle.scm_input.specs.declared.inputs.TerminalKind.{TerminalKind}
use Rattle.scm_record.specs.Session.{Session, start}
use Rattle.scm_record.specs.Live.{Live, LiveEdit}
use Rattle.scm_record.specs.LiveCalls.{Call, IsDrawnFor, Leads, Path}
use Rattle.scm_record.specs.Run.{Point}
use Rattle.scm_record.specs.declared.live.Turn.{Turn}
use Rattle.scm_record.specs.declared.live.Turn.TheVariants as turns
use Rattle.scm_front.specs.declared.layer.FrontTurn.{FrontTurn}
use Rattle.scm_front.specs.declared.layer.FrontTurn.TheVariants as fronts
use Rattle.scm_front.specs.Fronts.{beneath_of}
use Rattle.scm_front_paint.specs.declared.pane.Pane.{Pane}
use Rattle.scm_front_paint.specs.declared.view.ViewTurn.{ViewTurn}
use Rattle.scm_front_paint.specs.declared.view.ViewTurn.TheVariants as views
use Rattle.scm_front_paint.specs.Views.{IsShown}
use Rattle.scm_open_session.specs.declared.open_session.OpenSession.{OpenSession}
use Rattle.scm_open_session.specs.declared.open_session.Stage.{Stage}
use Rattle.scm_open_session.specs.declared.open_session.Stage.TheVariants.{Accepted, Building, Editing, Ended, Waiting}
use Rattle.scm_open_session.specs.declared.running.Running.{Running}
use Rattle.scm_open_session.specs.Dialogs.{dialog_at, dialog_in}
use Rattle.scm_open_session.specs.Layered.{OrRefused}
use Rattle.scm_open_session.specs.Questions.{state_of_stage, state_or_code}
use Rattle.scm_open_session.specs.Running.{live_of}
use Rattle.scm_open_session.specs.Stages.{ChangesStage, Presses, code_of_stage, stage_after, stage_of_view}
use Rattle.scm_open_session.specs.Steps.{HasCome, turn_at}
use Rattle.scm_preview.specs.Calls.{IsRefused, MayAccept, TellsTheSame}
use Rattle.scm_preview.specs.Preview.{CanAccept}
use Rattle.scm_preview.proofs.AcceptLemmas.{fails_by_memory, shown_is_accepted}

-- ---- the event that accepts

-- the state of a turn that has accepted
accepted_state : Turn → Option RecordState
accepted_state (turns.Waiting l) = None
accepted_state (turns.Editing a) = None
accepted_state (turns.Accepted state) = Some state

some-same : {A : Type 0} (a b : A) → Some a ≡ Some b → a ≡ b
some-same a b e = cc e

no-some : {B : Type 0} (state : RecordState) → ◌≡◌ {A = Option RecordState} None (Some state) → B
no-some state e = absurd (cc e)

no-number : {B : Type 0} (n : ℕ) → suc n ≡ 0 → B
no-number n e = absurd (omega (arith, e))

-- a view shows what the session beneath has accepted
shown-turn : (p : Pane) (state : RecordState) (middle : FrontTurn) (turn : ViewTurn) → IsShown p middle turn → accepted_state (beneath_of middle) ≡ Some state → turn ≡ views.Accepted state
unfolding accepted_state
shown-turn p state (fronts.Waiting f) turn shown e = no-some state e
shown-turn p state (fronts.Editing edit) turn shown e = no-some state e
shown-turn p state (fronts.Accepted given) turn IsShown.accepts e = ap views.Accepted (some-same given state e)

-- the stage after the event that accepts
after-accepting : (s : Running) (next : Stage) → CanAccept (live_of s) → Presses QuitAccept (Waiting s) next → (next ≡ Accepted (live_of s).session.shown.state) ⊎ (next ≡ Ended OutOfMemory)
unfolding accepted_state
after-accepting s next can (Presses.turned {l = l} turn leads) = inl (ap (λ (t : Turn). stage_after (Ok t)) (shown_is_accepted l can turn leads))
after-accepting s next can (Presses.failed {l = l} {error = error} fails) = inr (ap Ended (fails_by_memory l can error fails))
after-accepting s next can (Presses.layer_turned {v = v} turn p) =
    let led = ap accepted_state (shown_is_accepted v.front.beneath can (beneath_of p.middle) p.leads) in
    inl (ap (λ (t : ViewTurn). stage_of_view (Ok t)) (shown-turn v.pane v.front.beneath.session.shown.state p.middle turn p.shown led))
after-accepting s next can (Presses.layer_failed {v = v} {error = error} (OrRefused.refused e)) = inr (ap Ended e)
after-accepting s next can (Presses.layer_failed {v = v} {error = error} (OrRefused.failed fails)) = inr (ap Ended (fails_by_memory v.front.beneath can error fails))

-- what calls ask of an accepted stage is what they asked of the one that waits
pub told-the-same : (old new : OpenSession) → MayAccept old → ChangesStage (Presses QuitAccept) (Some old) (Some new) → TellsTheSame old new ⊎ IsRefused new
told-the-same old new may (ChangesStage.changes_stage goes decoder painter) =
    let from : Presses QuitAccept (Waiting may.session) new.stage = subst (λ (stage : Stage). Presses QuitAccept stage new.stage) may.waits goes in
    elim (after-accepting may.session new.stage may.can from) [
      | inl e ↦ inl (record {
        state = (live_of may.session).session.shown.state;
        accepted = e;
        same = ap (λ (stage : Stage). state_or_code (state_of_stage stage)) e ∙ sym (ap (λ (stage : Stage). state_or_code (state_of_stage stage)) may.waits);
      })
      | inr e ↦ inr e
    ]

-- ---- sessions that may accept

-- a session that waits for an event has none pending, and one that waits for a message has a frame last drawn
abbrev IsAtRest : Turn → Type 0
IsAtRest (turns.Waiting l) = l.session.pending ≡ []
IsAtRest (turns.Editing a) = (drawn : Session) × IsDrawnFor a drawn
IsAtRest (turns.Accepted state) = ⊤

leads-rest : (p : Point) (kind : TerminalKind) (turn : Turn) → Leads p kind [] [] turn → IsAtRest turn
leads-rest p kind (turns.Waiting l) leads = leads.2
leads-rest p kind (turns.Editing a) leads = (leads.0, leads.3)
leads-rest p kind (turns.Accepted state) leads = tt

path-rests : {first last : Turn} {calls : List Call} → IsAtRest first → Path first calls last → IsAtRest last
path-rests rest Path.still = rest
path-rests rest (Path.press {turn = turn} g p) = path-rests (leads-rest _ _ turn (g [] [] 0)) p
path-rests rest (Path.press_all {turn = turn} g p) = path-rests (leads-rest _ _ turn (g [] [] 0)) p
path-rests rest (Path.say {turn = turn} g p) = path-rests (leads-rest _ _ turn (g rest.0 [] [] 0 rest.1)) p
path-rests rest (Path.resize p) = path-rests rest p

come-rests : (given : RecordState) (kind : TerminalKind) (s : Running) → HasCome given kind (Waiting s) → (live_of s).session.pending ≡ []
come-rests given kind s (HasCome.comes calls turn e p) =
    subst IsAtRest (some-same turn (turns.Waiting (live_of s)) (sym e)) (path-rests refl p)
come-rests given kind s (HasCome.fails error e) = absurd (cc e)

-- the code of a session without a dialog
no-dialog : (help : Bool) (dialog : Option QuitDialog) → ◌≡◌ {A = ℕ} (if help then 2 else if is_some dialog then 1 else 0) 0 → (dialog ≡ None) × (help ≡ false)
no-dialog true dialog e = no-number 1 e
no-dialog false (Some dialog) e = no-number 0 e
no-dialog false None e = (refl, refl)

may-at : (given : RecordState) (kind : TerminalKind) (stage : Stage) → HasCome given kind stage → code_of_stage stage ≡ 0 → dialog_at stage ≡ 0
    → (s : Running) × ((stage ≡ Waiting s) × CanAccept (live_of s))
may-at given kind (Building state) come waits none = no-number 4 waits
may-at given kind (Waiting s) come waits none =
    let closed = no-dialog (live_of s).session.shown.is_help_open (live_of s).session.shown.quit_dialog none in
    (s, (refl, record { calm = come-rests given kind s come; no_dialog = closed.0; no_help = closed.1 }))
may-at given kind (Editing a) come waits none = no-number 0 waits
may-at given kind (Accepted state) come waits none = no-number 1 waits
may-at given kind (Ended error) come waits none = no-number 2 waits

pub may-accept : (given : RecordState) (kind : TerminalKind) (inner : OpenSession) → HasCome given kind inner.stage → code_of_stage inner.stage ≡ 0
    → dialog_at inner.stage ≡ 0 → MayAccept inner
may-accept given kind inner come waits none =
    let m = may-at given kind inner.stage come waits none in record { session = m.0; waits = m.1.0; can = m.1.1 }
