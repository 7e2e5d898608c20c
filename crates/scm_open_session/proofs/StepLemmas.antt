-- The calls of a program: each is some calls of the live session beneath, or ends it in an error.
use Rattle.std.proofs.Common.{◌≡◌, ℕ, ◌-◌, min, List, [], ◌∷◌, ◌++◌, Option, Some, Ok, Err, IsTrue, refl, sym, ap, ◌∙◌, subst}
use Rattle.scm_errors.specs.declared.error.RecordError.{RecordError}
use Rattle.scm_types.specs.declared.keys.SelectionKey.{SelectionKey}
use Rattle.scm_types.specs.declared.state.RecordState.{RecordState}
use Rattle.scm_types.specs.Limits.{is_accepted_state}
use Rattle.scm_input.specs.declared.inputs.TerminalKind.{TerminalKind}
use Rattle.scm_input.specs.declared.inputs.TerminalKind.TheVariants.{Testing}
use Rattle.scm_record.specs.Session.{start}
use Rattle.scm_record.specs.Jumps.{after_selecting}
use Rattle.scm_record.specs.Live.{Live}
use Rattle.scm_record.specs.LiveCalls.{AreRuns, Call, Press, PressAll, Resize, Say, Path, press, press_all, resize, say, still}
use Rattle.scm_record.specs.declared.live.Turn.{Turn}
use Rattle.scm_record.specs.declared.live.Turn.TheVariants as turns
use Rattle.scm_record.proofs.PathLemmas.{path-after}
use Rattle.scm_front.specs.Fronts.{beneath_of}
use Rattle.scm_front.specs.declared.starting.Folds.TheVariants as folds
use Rattle.scm_front.proofs.BegunLemmas.{jump-leads, jump-path}
use Rattle.scm_front_paint.specs.declared.view.ViewTurn.{ViewTurn}
use Rattle.scm_front_paint.specs.declared.view.ViewTurn.TheVariants as views
use Rattle.scm_front_paint.specs.Seen.{Seen}
use Rattle.scm_front_paint.specs.Views.{front_turn}
use Rattle.scm_front_paint.proofs.ViewLemmas.{Calls, calls-after, fitted-calls, hears-calls, no-calls, shown-calls}
use Rattle.scm_open_session.specs.declared.open_session.OpenSession.{OpenSession}
use Rattle.scm_open_session.specs.declared.open_session.Stage.{Stage}
use Rattle.scm_open_session.specs.declared.open_session.Stage.TheVariants.{Accepted, Building, Ended, Waiting}
use Rattle.scm_open_session.specs.declared.running.Running.TheVariants as running
use Rattle.scm_open_session.specs.Batches.{PressesAll}
use Rattle.scm_open_session.specs.Batches as batches
use Rattle.scm_open_session.specs.Building.{Starts}
use Rattle.scm_open_session.specs.LayerCalls.{BeginsLayer, IsNewView, SetsStart, StartsView}
use Rattle.scm_open_session.specs.OwnKeys.{SetsKeys}
use Rattle.scm_open_session.specs.Selecting.{Selects}
use Rattle.scm_open_session.specs.Stages.{Begins, Idles, Presses, Resizes, Says, Types, stage_after, stage_of_view}
use Rattle.scm_open_session.specs.Steps.{HasCome, Step, Steps, comes, fails, goes_on, no_more, turn_at}
use Rattle.scm_c_values.specs.Screens.{screen_of}

-- ---- stages

after-is : (turn : Turn) → turn_at (stage_after (Ok turn)) ≡ Some turn
after-is (turns.Waiting l) = refl
after-is (turns.Editing a) = refl
after-is (turns.Accepted state) = refl

view-is : (turn : ViewTurn) → turn_at (stage_of_view (Ok turn)) ≡ Some (beneath_of (front_turn turn))
view-is (views.Waiting v) = refl
view-is (views.Editing v) = refl
view-is (views.Accepted state) = refl

-- ---- a call

-- Some calls of the live session lead from what waited to what is at a stage now, or it has ended in an error.
data Goes (first : Turn) (new : Stage) : Type 0 where
  to : (last : Turn) → turn_at new ≡ Some last → Calls first last → Goes first new
  wrong : (error : RecordError) → new ≡ Ended error → Goes first new

one : {first last : Turn} {call : Call} → Path first (call ∷ []) last → Calls first last
one p = record { calls = _; path = p }

plainly : {first : Turn} (turn : Turn) → Calls first turn → Goes first (stage_after (Ok turn))
plainly turn c = to turn (after-is turn) c

seen-as : {first : Turn} (turn : ViewTurn) → Calls first (beneath_of (front_turn turn)) → Goes first (stage_of_view (Ok turn))
seen-as turn c = to (beneath_of (front_turn turn)) (view-is turn) c

-- the turn before a call, and what comes of it
abbrev Does : Stage → Stage → Type 0
Does old new = (first : Turn) × ((turn_at old ≡ Some first) × Goes first new)

presses : {old new : Stage} (event : _) → Presses event old new → Does old new
presses event (Presses.turned turn g) = (_, (refl, plainly turn (one (press g still))))
presses event (Presses.failed g) = (_, (refl, wrong _ refl))
presses event (Presses.layer_turned turn g) = (_, (refl, seen-as turn (calls-after (one (press g.leads still)) (shown-calls g.shown))))
presses event (Presses.layer_failed g) = (_, (refl, wrong _ refl))

presses-all : {old new : Stage} (list : _) → PressesAll list old new → Does old new
presses-all list (PressesAll.turned turn g) = (_, (refl, plainly turn (one (press_all g still))))
presses-all list (PressesAll.failed g) = (_, (refl, wrong _ refl))
presses-all list (PressesAll.layer_turned turn g) = (_, (refl, seen-as turn (calls-after (one (press_all g.leads still)) (shown-calls g.shown))))
presses-all list (PressesAll.layer_failed g) = (_, (refl, wrong _ refl))

types : {old new : Stage} (bytes : List ℕ) (heard hears : _) → Types bytes heard hears old new → Does old new
types bytes heard hears (Types.turned turn g) = (_, (refl, plainly turn (record { calls = _; path = g.hands_in.path })))
types bytes heard hears (Types.failed g) = (_, (refl, wrong _ refl))
types bytes heard hears (Types.layer_turned turn g) = (_, (refl, seen-as turn (hears-calls g.hears)))
types bytes heard hears (Types.layer_failed g) = (_, (refl, wrong _ refl))

idles : {old new : Stage} (heard hears : _) → Idles heard hears old new → Does old new
idles heard hears (Idles.turned turn g) = (_, (refl, plainly turn (record { calls = _; path = g.hands_in.path })))
idles heard hears (Idles.failed g) = (_, (refl, wrong _ refl))
idles heard hears (Idles.layer_turned turn g) = (_, (refl, seen-as turn (hears-calls g.hears)))
idles heard hears (Idles.layer_failed g) = (_, (refl, wrong _ refl))

says : {old new : Stage} (text : List ℕ) → Says text old new → Does old new
says text (Says.turned turn g) = (_, (refl, plainly turn (one (say g still))))
says text (Says.failed g) = (_, (refl, wrong _ refl))
says text (Says.layer_turned turn g) = (_, (refl, seen-as turn (calls-after (one (say g.leads still)) (shown-calls g.shown))))
says text (Says.layer_failed g) = (_, (refl, wrong _ refl))

resizes : {old new : Stage} (kind : TerminalKind) → Resizes kind old new → Does old new
resizes kind Resizes.resized = (_, (refl, to _ refl (one (resize still))))
resizes (Testing width height) (Resizes.layer_resized g) = (_, (refl, to _ refl (fitted-calls g.0)))

starts : {old new : Stage} (folds : _) (first : _) → SetsStart folds first old new → Does old new
starts folds first (SetsStart.turned turn g) = (_, (refl, seen-as turn (calls-after (record { calls = g.calls; path = g.path }) (shown-calls g.shown))))
starts folds first SetsStart.failed = (_, (refl, wrong _ refl))

sets-keys : {old new : Stage} (keys : _) → SetsKeys keys old new → Does old new
sets-keys keys SetsKeys.keys_set = (_, (refl, to _ refl (no-calls _)))

-- ---- calls, one after another

abbrev begun : RecordState → TerminalKind → Turn
begun given kind = turns.Waiting (record { session = start given; kind = kind })

same-turn : (stage : Stage) (a b : Turn) → turn_at stage ≡ Some a → turn_at stage ≡ Some b → a ≡ b
same-turn stage a b e f = cc (e, f)

no-turn : {A : Type 0} (stage : Stage) (error : RecordError) (turn : Turn) → stage ≡ Ended error → turn_at stage ≡ Some turn → A
no-turn stage error turn e f = absurd (cc (ap turn_at e, f))

module _ (given : RecordState) (kind : TerminalKind) where
  further : {new : Stage} {first : Turn} {calls : List Call} → Path (begun given kind) calls first → Goes first new → HasCome given kind new
  further p (to last e c) = comes _ last e (path-after p c.path)
  further p (wrong error e) = fails error e

  steps-on : (old new : Stage) → HasCome given kind old → Does old new → HasCome given kind new
  steps-on old new (comes calls turn e p) d =
      further (subst (λ (t : Turn). Path (begun given kind) calls t) (same-turn old turn d.0 e d.1.0) p) d.1.1
  steps-on old new (fails error e) d = no-turn old error d.0 e d.1.0

  -- an item is selected by a jump from where the session has come
  selects-on : (l : Live) (key : SelectionKey) → HasCome given kind (Waiting (running.Plain l)) → HasCome given kind (Waiting (running.Plain (after_selecting l key)))
  selects-on l key (comes calls turn e p) =
      let path = subst (λ (t : Turn). Path (begun given kind) calls t) (same-turn (Waiting (running.Plain l)) turn (turns.Waiting l) e refl) p in
      let jump = jump-leads l key (record { given = given; kind = kind; calls = calls; path = path }) in
      comes _ _ refl (path-after path (jump-path jump.1))
  selects-on l key (fails error e) = no-turn (Waiting (running.Plain l)) error (turns.Waiting l) e refl

  selects : (old new : Stage) (key : SelectionKey) → HasCome given kind old → Selects key old new → HasCome given kind new
  selects old new key h (Selects.selected {l = l}) = selects-on l key h
  selects old new key h Selects.failed = fails _ refl
  selects old new key h (Selects.layered s) = steps-on old new h (starts folds.AsIs key s)

  step-comes : (old new : Stage) → HasCome given kind old → Step old new → HasCome given kind new
  step-comes old new h (Step.pressed event s) = steps-on old new h (presses event s)
  step-comes old new h (Step.pressed_all list s) = steps-on old new h (presses-all list s)
  step-comes old new h (Step.typed bytes heard hears s) = steps-on old new h (types bytes heard hears s)
  step-comes old new h (Step.silent heard hears s) = steps-on old new h (idles heard hears s)
  step-comes old new h (Step.answered text s) = steps-on old new h (says text s)
  step-comes old new h (Step.resized kind s) = steps-on old new h (resizes kind s)
  step-comes old new h (Step.started folds first s) = steps-on old new h (starts folds first s)
  step-comes old new h (Step.selected key s) = selects old new key h s
  step-comes old new h (Step.own_keys keys s) = steps-on old new h (sets-keys keys s)

  pub steps-come : {old new : Stage} → HasCome given kind old → Steps old new → HasCome given kind new
  steps-come h no_more = h
  steps-come h (goes_on {old = old} {next = next} s later) = steps-come (step-comes old next h s) later

  -- what the session at a stage waits for or accepted
  pub come-to : (stage : Stage) (turn : Turn) → HasCome given kind stage → turn_at stage ≡ Some turn → Calls (begun given kind) turn
  come-to stage turn (comes calls other e p) f = record { calls = calls; path = subst (λ (t : Turn). Path (begun given kind) calls t) (same-turn stage other turn e f) p }
  come-to stage turn (fails error e) f = no-turn stage error turn e f

  -- ---- the start

  pub begins-here : (stage : Stage) → turn_at stage ≡ Some (begun given kind) → HasCome given kind stage
  begins-here stage e = comes [] (begun given kind) e still

  pub starts-here : (stage : Stage) (code : ℕ) → code ≡ 0 → Starts kind (Building given) stage code → HasCome given kind stage
  starts-here stage code e (Starts.started a) = begins-here _ refl
  starts-here stage code e (Starts.not_accepted a) = absurd (cc e)
  starts-here stage code e (Starts.no_memory a) = absurd (cc e)
  starts-here stage code e (Starts.not_building f) = absurd (cc e)

abbrev layer-kind : ℕ → ℕ → TerminalKind
layer-kind width height = Testing (min width 1000) (min height 1000 - 1)

pub view-here : (given : RecordState) (width height : ℕ) (v : Seen) → IsNewView given (min width 1000) (min height 1000) v
    → HasCome given (layer-kind width height) (Waiting (running.Layered v))
view-here given width height v h =
    let c = fitted-calls h.shown in
    comes c.calls _ refl (subst (λ (l : Live). Path (turns.Waiting l) c.calls (turns.Waiting v.front.beneath)) h.beneath c.path)

pub views-start : (given : RecordState) (width height code : ℕ) (stage : Stage) → code ≡ 0 → StartsView width height (Building given) stage code
    → HasCome given (layer-kind width height) stage
views-start given width height code stage e (StartsView.started a h) = view-here given width height _ h
views-start given width height code stage e (StartsView.not_accepted a) = absurd (cc e)
views-start given width height code stage e (StartsView.no_memory a) = absurd (cc e)
views-start given width height code stage e (StartsView.not_building f) = absurd (cc e)

pub session-begins : (json : List ℕ) (width height : ℕ) (inner : OpenSession) (h : Begins json width height inner)
    → HasCome h.given (screen_of width height) inner.stage
session-begins json width height inner h = begins-here h.given (screen_of width height) inner.stage (ap turn_at h.begun)

pub layer-begins : (json : List ℕ) (width height : ℕ) (inner : OpenSession) (h : BeginsLayer json width height inner)
    → HasCome h.given (layer-kind width height) inner.stage
layer-begins json width height inner h =
    subst (λ (s : Stage). HasCome h.given (layer-kind width height) s) (sym h.begun) (view-here h.given width height h.view h.new_view)
