-- Calls that are logged.
use Rattle.std.proofs.Common.{◌≡◌, ℕ, Bool, true, false, List, [], ◌∷◌, ◌++◌, refl, sym, ap, ◌∙◌, subst, Option, Some}
use Rattle.std.specs.Prelude.{IfSome, IsTrue, if◌then◌else◌}
use Rattle.std.specs.declared.alloc.Global.{Global}
use Rattle.scm_types.specs.Limits.{is_accepted_state}
use Rattle.scm_types.specs.declared.keys.SelectionKey.{SelectionKey}
use Rattle.scm_types.specs.declared.state.RecordState.{RecordState}
use Rattle.scm_input.specs.declared.events.Event.{Event}
use Rattle.scm_input.specs.declared.inputs.TerminalKind.{TerminalKind}
use Rattle.scm_record.specs.Session.{start}
use Rattle.scm_record.specs.Live.{Live, LiveEdit, on_screen}
use Rattle.scm_record.specs.Jumps.{after_jump, after_selecting, can_select}
use Rattle.scm_record.specs.LiveCalls.{BatchLeads, Call, EventLeads, MessageLeads, Path, Press, PressAll, Resize, Say, press, press_all, resize, say, still}
use Rattle.scm_record.specs.declared.live.Turn.{Turn}
use Rattle.scm_record.specs.declared.live.Turn.TheVariants.{Waiting, Editing}
use Rattle.scm_record.proofs.JumpLemmas.{jumped}
use Rattle.scm_front.specs.declared.logging.LoggedCall.{LoggedCall}
use Rattle.scm_front.specs.declared.logging.LoggedCall.TheVariants.{Pressed, Batched, Jumped, Answered, Resized}
use Rattle.scm_front.specs.declared.logging.CallLog.{CallLog}
use Rattle.scm_front.specs.declared.logging.Logging.{Logging}
use Rattle.scm_front.specs.declared.logging.Logging.TheVariants as loggings
use Rattle.scm_front.specs.Logging.{BeginsLog, HasLog, IsBegun, IsStart, IsLogged, LeadsBy, Logs, LogsCall, LogsMore, adds, loses, logs_batch, logs_event, logs_jump, logs_message, logs_nothing, logs_screen}
use Rattle.scm_front.proofs.BegunLemmas.{begins, by-batch, by-event, by-jump, by-message, begun-on}

-- ---- logged calls

pub logs-after : {first mid last : Turn} {list more : List LoggedCall} {calls later : List Call} → Logs first list calls mid → Logs mid more later last
    → Logs first (list ++ more) (calls ++ later) last
logs-after logs_nothing q = q
logs-after (logs_event g p) q = logs_event g (logs-after p q)
logs-after (logs_batch g p) q = logs_batch g (logs-after p q)
logs-after (logs_jump can g p) q = logs_jump can g (logs-after p q)
logs-after (logs_message g p) q = logs_message g (logs-after p q)
logs-after (logs_screen p) q = logs_screen (logs-after p q)

-- the logged calls are made
pub logs-path : {first last : Turn} {list : List LoggedCall} {calls : List Call} → Logs first list calls last → Path first calls last
logs-path logs_nothing = still
logs-path (logs_event g p) = press g (logs-path p)
logs-path (logs_batch g p) = press_all g (logs-path p)
logs-path (logs_jump can g p) = press_all g (logs-path p)
logs-path (logs_message g p) = say g (logs-path p)
logs-path (logs_screen p) = resize (logs-path p)

-- ---- one call more

pub added : (log : CallLog) (call : Option LoggedCall) (newest : LoggedCall) (calls : List LoggedCall) → call ≡ Some newest → calls ≡ log.calls ++ newest ∷ []
    → LogsMore log call (loggings.On (record log { calls = calls }))
added log call newest calls is e = adds newest is (ap (λ (list : List LoggedCall). loggings.On (record log { calls = list })) e)

more-logged : (old : CallLog) (call : LoggedCall) (first last : Turn) → LeadsBy call first last → HasLog old first → HasLog (record old { calls = old.calls ++ call ∷ [] }) last
more-logged old call first last way h = record { given = h.given; accepted = h.accepted; calls = h.calls ++ way.0; leads = logs-after h.leads way.1 }

-- what is logged is so again after a call that leads on
module _ (first last : Turn) (new : Logging) where
  logged-as : (logging : Logging) → new ≡ logging → IsLogged logging last → IsLogged new last
  logged-as logging e h = subst (λ (t : Logging). IsLogged t last) (sym e) h

  logged-more : (old : CallLog) (call : Option LoggedCall) → ((c : LoggedCall) → call ≡ Some c → LeadsBy c first last) → LogsMore old call new → HasLog old first → IsLogged new last
  logged-more old call way (adds c is e) h = logged-as (loggings.On (record old { calls = old.calls ++ c ∷ [] })) e (more-logged old c first last (way c is) h)
  logged-more old call way (loses e) h = logged-as loggings.Lost e tt

  logged-after : (old : Logging) (call : Option LoggedCall) → ((c : LoggedCall) → call ≡ Some c → LeadsBy c first last) → LogsCall old call new → IsLogged old first → IsLogged new last
  logged-after loggings.Fresh call way e h = logged-as loggings.Off e tt
  logged-after loggings.Off call way e h = logged-as loggings.Off e tt
  logged-after (loggings.On log) call way e h = logged-more log call way e h
  logged-after loggings.Lost call way e h = logged-as loggings.Lost e tt

known-call : (expected c : LoggedCall) (call : Option LoggedCall) → IfSome call (λ (x : LoggedCall). x ≡ expected) → call ≡ Some c → c ≡ expected
known-call expected c call same is = subst (λ (o : Option LoggedCall). IfSome o (λ (x : LoggedCall). x ≡ expected)) is same

-- the call is the one that is expected, if there is a copy of it
logged-by : (expected : LoggedCall) (first last : Turn) (old new : Logging) (call : Option LoggedCall) → LeadsBy expected first last
    → IfSome call (λ (c : LoggedCall). c ≡ expected) → LogsCall old call new → IsLogged old first → IsLogged new last
logged-by expected first last old new call way same e h =
    logged-after first last new old call (λ c is. subst (λ (x : LoggedCall). LeadsBy x first last) (sym (known-call expected c call same is)) way) e h

-- ---- sessions that have begun

pub logs-start : (state : RecordState) (kind : TerminalKind) (l : Live) → IsTrue (is_accepted_state state) → l ≡ record { session = start state; kind = kind }
    → IsBegun loggings.Fresh (Waiting l)
logs-start state kind l accepted e = record {
  begun = begins state kind l e;
  logged = record { given = state; kind = kind; accepted = accepted; is = ap (λ (x : Live). Waiting x) e };
}

pub logs-by-event : (l : Live) (event : Event) (turn : Turn) (old new : Logging) → IsBegun old (Waiting l) → EventLeads l event turn
    → LogsCall old (Some (Pressed event)) new → IsBegun new turn
logs-by-event l event turn old new b g e = record {
  begun = by-event l event turn b.begun g;
  logged = logged-by (Pressed event) (Waiting l) turn old new (Some (Pressed event)) (Press event ∷ [], logs_event g logs_nothing) refl e b.logged;
}

pub logs-by-batch : (l : Live) (list : List Event) (turn : Turn) (old new : Logging) (call : Option LoggedCall) → IsBegun old (Waiting l) → BatchLeads l list turn
    → IfSome call (λ (c : LoggedCall). c ≡ Batched list) → LogsCall old call new → IsBegun new turn
logs-by-batch l list turn old new call b g same e = record {
  begun = by-batch l list turn b.begun g;
  logged = logged-by (Batched list) (Waiting l) turn old new call (PressAll list ∷ [], logs_batch g logs_nothing) same e b.logged;
}

-- `said` is the text by another name
pub logs-by-message : (a : LiveEdit) (said text : List ℕ) (turn : Turn) (old new : Logging) (call : Option LoggedCall) → said ≡ text → IsBegun old (Editing a)
    → MessageLeads a text turn → IfSome call (λ (c : LoggedCall). c ≡ Answered said) → LogsCall old call new → IsBegun new turn
logs-by-message a said text turn old new call is b g same e =
    let same_text : IfSome call (λ (c : LoggedCall). c ≡ Answered text) = subst (λ (t : List ℕ). IfSome call (λ (c : LoggedCall). c ≡ Answered t)) is same in
    record {
      begun = by-message a text turn b.begun g;
      logged = logged-by (Answered text) (Editing a) turn old new call (Say text ∷ [], logs_message g logs_nothing) same_text e b.logged;
    }

pub logs-by-screen : (l next : Live) (kind : TerminalKind) (old new : Logging) → next ≡ on_screen l kind → LogsCall old (Some (Resized kind)) new
    → IsBegun old (Waiting l) → IsBegun new (Waiting next)
logs-by-screen l next kind old new same e b =
    subst (λ (x : Live). IsBegun new (Waiting x)) (sym same) (record {
      begun = begun-on (Resize kind ∷ []) (resize still) b.begun;
      logged = logged-by (Resized kind) (Waiting l) (Waiting (on_screen l kind)) old new (Some (Resized kind)) (Resize kind ∷ [], logs_screen logs_nothing) refl e b.logged;
    })

-- the same where the session is as it was
pub logs-still : (l next : Live) (logging : Logging) → next ≡ l → IsBegun logging (Waiting l) → IsBegun logging (Waiting next)
logs-still l next logging same b = subst (λ (x : Live). IsBegun logging (Waiting x)) (sym same) b

-- a jump is logged if the key can be selected
module _ (l next : Live) (key : SelectionKey) (can : Bool) (old new : Logging) (b : IsBegun old (Waiting l)) where
  jump-logged : (x : Bool) → can_select l key ≡ x → (IsTrue x → LogsCall old (Some (Jumped key)) new) → (x ≡ false → new ≡ old) → IsLogged new (Waiting (after_selecting l key))
  jump-logged true e logs stays =
      let h = b.begun in
      let way = jumped h.given h.kind h.calls l key h.path e in
      logged-by (Jumped key) (Waiting l) (Waiting (after_selecting l key)) old new (Some (Jumped key)) (PressAll way.0 ∷ [], logs_jump e way.1 logs_nothing) refl (logs refl) b.logged
  jump-logged false e logs stays =
      let same : l ≡ after_selecting l key = ap (λ (x : Bool). if x then after_jump l key else l) (sym e) in
      subst (λ (t : Logging). IsLogged t (Waiting (after_selecting l key))) (sym (stays refl)) (subst (λ (x : Live). IsLogged old (Waiting x)) same b.logged)

  pub logs-by-jump : can ≡ can_select l key → next ≡ after_selecting l key → (IsTrue can → LogsCall old (Some (Jumped key)) new) → (can ≡ false → new ≡ old)
      → IsBegun new (Waiting next)
  logs-by-jump is same logs stays = record {
    begun = by-jump l next key b.begun same;
    logged = subst (λ (x : Live). IsLogged new (Waiting x)) (sym same) (jump-logged can (sym is) logs stays);
  }

-- ---- the begin of a log

live-is : {a b : Live} → Waiting a ≡ Waiting b → a ≡ b
live-is e = cc

-- the calls are logged from the start on
begins-logged : (l : Live) (kind : TerminalKind) (alloc : Global) → kind ≡ l.kind → IsStart (Waiting l) → HasLog (record { kind = kind; calls = []; alloc = alloc }) (Waiting l)
begins-logged l kind alloc e s =
    let at : TerminalKind → Live = λ k. record { session = start s.given; kind = k } in
    let is : l ≡ at s.kind = live-is s.is in
    let same : at kind ≡ l = ap at (e ∙ ap (λ (x : Live). x.kind) is) ∙ sym is in
    record {
      given = s.given;
      accepted = s.accepted;
      calls = [];
      leads = subst (λ (x : Live). Logs (Waiting (at kind)) [] [] (Waiting x)) same logs_nothing;
    }

logged-from-now : (l : Live) (kind : TerminalKind) (alloc : Global) (old new : Logging) → kind ≡ l.kind → BeginsLog kind alloc old new → IsLogged old (Waiting l) → IsLogged new (Waiting l)
logged-from-now l kind alloc loggings.Fresh new e is h =
    subst (λ (t : Logging). IsLogged t (Waiting l)) (sym is) (begins-logged l kind alloc e h)
logged-from-now l kind alloc loggings.Off new e is h = subst (λ (t : Logging). IsLogged t (Waiting l)) (sym is) tt
logged-from-now l kind alloc (loggings.On log) new e is h = subst (λ (t : Logging). IsLogged t (Waiting l)) (sym is) h
logged-from-now l kind alloc loggings.Lost new e is h = subst (λ (t : Logging). IsLogged t (Waiting l)) (sym is) tt

pub logs-from-now : (l : Live) (kind : TerminalKind) (alloc : Global) (old new : Logging) → kind ≡ l.kind → BeginsLog kind alloc old new → IsBegun old (Waiting l) → IsBegun new (Waiting l)
logs-from-now l kind alloc old new e is b = record { begun = b.begun; logged = logged-from-now l kind alloc old new e is b.logged }
