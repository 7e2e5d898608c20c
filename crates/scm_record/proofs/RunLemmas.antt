-- Lemmas on steps and runs.
use Rattle.std.proofs.Common.{◌≡◌, ℕ, ◌+◌, ◌<◌, ◌≤◌, Bool, false, cond, List, [], ◌∷◌, length, drop, get_or, Option, Some, None, sym, ap, ◌∙◌, refl, subst, add-one, add-zero, arith}
use Rattle.std.specs.Prelude.{MatchOption, nat_lt, option_map}
use Rattle.std.proofs.Math.Seq.{drop-cons}
use Rattle.std.proofs.lemmas.List.{drop_all}
use Rattle.scm_errors.specs.declared.error.RecordError.{RecordError}
use Rattle.scm_errors.specs.Fault.{Fault, fault_of}
use Rattle.scm_input.specs.declared.events.Event.{Event}
use Rattle.scm_input.specs.declared.inputs.TerminalKind.{TerminalKind}
use Rattle.scm_record.specs.declared.runs.Next.{Next}
use Rattle.scm_types.specs.Limits.{is_short_text}
use Rattle.scm_record.specs.declared.session.Flow.{Flow}
use Rattle.scm_record.specs.Step.{Change, change}
use Rattle.scm_record.specs.Frames.{Scene, scene_of}
use Rattle.scm_input.specs.Store.{Store, with_frame}
use Rattle.scm_errors.specs.declared.error.RecordError.TheVariants.{OutOfMemory}
use Rattle.scm_record.specs.Session.{Session, after_frame, message_text, with_message}
use Rattle.scm_input.specs.Script.{Read, Edit, Answer, BrokenEdit, Reply, Replies}
use Rattle.scm_record.specs.Run.{Setting, setting, World, world_in, with_session, with_edits, with_text, with_frame_drawn, Outcome, Goes, Breaks, Point, Before, Drawn, Within, Failed, no_such_place, too_long, after_screenshot, after_answer, after_edit, outcome_by, after_change, step_in, step, resume, after, batch, Reaches, here, on, world_at, IsSameButSession, Stops}
use Rattle.scm_record.specs.RunContracts.{outcome_of, point_of, BatchStops, Ceases, Handles, IsFault, Refuses, faulty, out_of_memory, TurnStops}

-- a run goes on by the next event of a batch
reaches-event : (p : Point) (drawn : Session) (w : World) (events : List Event) (i : ℕ) (d : Event) → i < length events → Reaches p (Within drawn w (drop i events)) → Reaches p (resume drawn (drop (i + 1) events) (step drawn w (get_or events i d)))
reaches-event p drawn w events i d h r =
    let left : drop i events ≡ get_or events i d ∷ drop (i + 1) events = rw (drop-cons events i d, add-one) refl in
    let P : List Event → Type 0 = λ rest. Reaches p (after (Within drawn w rest)) in
    subst P left (on r)

-- the same where it is known what comes next
pub reaches-next : (p : Point) (drawn : Session) (w v : World) (events : List Event) (i : ℕ) (d : Event) (next known : Next) → i < length events → Reaches p (Within drawn w (drop i events)) → step drawn w (get_or events i d) ≡ outcome_of next v → next ≡ known → Reaches p (resume drawn (drop (i + 1) events) (outcome_of known v))
reaches-next p drawn w v events i d next known h r e k =
    let outcome = e ∙ ap (λ (n : Next). outcome_of n v) k in
    subst (λ (o : Outcome). Reaches p (resume drawn (drop (i + 1) events) o)) outcome (reaches-event p drawn w events i d h r)

-- at the end of a batch a run goes on to the next frame
pub reaches-end : (p : Point) (drawn : Session) (w : World) (events : List Event) (i : ℕ) → length events ≤ i → Reaches p (Within drawn w (drop i events)) → Reaches p (Before w)
reaches-end p drawn w events i h r =
    let left : drop i events ≡ [] = drop_all i events h in
    subst (λ (rest : List Event). Reaches p (after (Within drawn w rest))) left (on r)

-- what is reached from a point that is reached
pub reaches-trans : {p q r : Point} → Reaches p q → Reaches q r → Reaches p r
reaches-trans a here = a
reaches-trans a (on b) = on (reaches-trans a b)

batch-stops-by : (f : Option Fault) (p : Point) (w v w' : World) → Reaches (Before w) (Drawn v) → Reaches (Before w) p → MatchOption f (IsSameButSession w' v) (λ fault. p ≡ Failed fault w') → MatchOption f ((q : Point) × Reaches (Before w) q × IsSameButSession w' (world_at q)) (λ fault. Reaches (Before w) (Failed fault w'))
batch-stops-by None p w v w' r r' h = (Drawn v, r, h)
batch-stops-by (Some fault) p w v w' r r' h = subst (λ (q : Point). Reaches (Before w) q) h r'

-- a run stops where no batch comes
pub batch-stops : (error : RecordError) (w w' : World) → BatchStops error (batch (with_frame_drawn w) w.session.pending) (with_frame_drawn w) w' → Stops error (Before w) w'
batch-stops error w w' h = batch-stops-by (fault_of error) _ w (with_frame_drawn w) w' (on here) (on (on here)) h

-- an allocation failure stops a run at the point that it reached
pub stops-memory : (error : RecordError) (p q : Point) (w : World) → fault_of error ≡ None → Reaches p q → IsSameButSession w (world_at q) → Stops error p w
stops-memory error p q w e r h =
    let P : Option Fault → Type 0 = λ f. MatchOption f ((q : Point) × Reaches p q × IsSameButSession w (world_at q)) (λ fault. Reaches p (Failed fault w)) in
    subst P (sym e) (q, r, h)

stops-after-by : (f : Option Fault) (p q : Point) (w : World) → Reaches p q → MatchOption f ((r : Point) × Reaches q r × IsSameButSession w (world_at r)) (λ fault. Reaches q (Failed fault w)) → MatchOption f ((r : Point) × Reaches p r × IsSameButSession w (world_at r)) (λ fault. Reaches p (Failed fault w))
stops-after-by None p q w r h = (h.0, reaches-trans r h.1, h.2)
stops-after-by (Some fault) p q w r h = reaches-trans r h

-- what stops later stops
pub stops-after : (error : RecordError) (p q : Point) (w : World) → Reaches p q → Stops error q w → Stops error p w
stops-after error p q w r h = stops-after-by (fault_of error) p q w r h

stops-by-fault : (expected : Fault) (f : Option Fault) (p : Point) (w : World) → Reaches p (Failed expected w) → MatchOption f (Unit {0}) (λ fault. fault ≡ expected) → MatchOption f ((q : Point) × Reaches p q × IsSameButSession w (world_at q)) (λ fault. Reaches p (Failed fault w))
stops-by-fault expected None p w r h = (Failed expected w, r, record { reads = refl; edits = refl; texts = refl; frames = refl })
stops-by-fault expected (Some fault) p w r h = subst (λ (x : Fault). Reaches p (Failed x w)) (sym h) r

-- a fault that is reached stops a run, also where there is no memory for its words
pub stops-fault : (error : RecordError) (expected : Fault) (p : Point) (w : World) → Reaches p (Failed expected w) → IsFault expected error → Stops error p w
stops-fault error expected p w r h = stops-by-fault expected (fault_of error) p w r h

-- a turn that is known to go on so
pub reaches-turn : (p : Point) (w : World) (next known : Next) → Reaches p (point_of next w) → next ≡ known → Reaches p (point_of known w)
reaches-turn p w next known r e = subst (λ (n : Next). Reaches p (point_of n w)) e r

-- ---- events that are refused

refused-by : (error : RecordError) (p : Point) (drawn : Session) (w v : World) (rest : List Event) (outcome : Outcome) → Reaches p (resume drawn rest outcome) → (q : Point) → Reaches p q → world_at q ≡ w → Refuses error w outcome v → Stops error p v
refused-by error p drawn w v rest outcome r q b e (faulty fault is f) =
    stops-fault error fault p v (subst (λ (o : Outcome). Reaches p (resume drawn rest o)) is r) f
refused-by error p drawn w v rest outcome r q b e (out_of_memory none shows) =
    stops-memory error p q v none b (subst (λ (x : World). IsSameButSession v x) (sym e) shows)

-- a refused event stops its batch
pub refused-stops : (error : RecordError) (p : Point) (drawn : Session) (w v : World) (events : List Event) (i : ℕ) (d : Event) → i < length events → Reaches p (Within drawn w (drop i events)) → Refuses error w (step drawn w (get_or events i d)) v → Stops error p v
refused-stops error p drawn w v events i d h r k =
    refused-by error p drawn w v (drop (i + 1) events) (step drawn w (get_or events i d)) (reaches-event p drawn w events i d h r) (Within drawn w (drop i events)) r refl k

-- the same from a world with another session, and of an equal outcome
pub refuses-as : (error : RecordError) (w w' v : World) (outcome outcome' : Outcome) → IsSameButSession w w' → outcome' ≡ outcome → Refuses error w outcome v → Refuses error w' outcome' v
refuses-as error w w' v outcome outcome' s e (faulty fault is f) = faulty fault (e ∙ is) f
refuses-as error w w' v outcome outcome' s e (out_of_memory none shows) =
    out_of_memory none (record { reads = shows.reads ∙ s.reads; edits = shows.edits ∙ s.edits; texts = shows.texts ∙ s.texts; frames = shows.frames ∙ s.frames })

-- the step of an event by what it makes of the session, where it is known what follows
pub step-of : (scene : Scene) (a : Setting) (s s' : Session) (frames : ℕ) (event : Event) (flow known : Flow) → change scene s event ≡ record { session = s'; flow = flow } → flow ≡ known → step_in scene (world_in a s frames) event ≡ outcome_by scene (world_in a s' frames) known
step-of scene a s s' frames event flow known e k =
    ap (λ (c : Change). after_change scene (world_in a s frames) c) e ∙ ap (λ (f : Flow). outcome_by scene (world_in a s' frames) f) k

-- an edit takes the first of the edits
pub edited-takes : (w : World) (commit : ℕ) (answer : Edit) (old new : List Reply) → Replies (message_text w.session commit) (Some answer) old new → after_edit w commit old ≡ after_answer (with_edits w new) commit answer
edited-takes w commit answer [] new h = rw (h.0, h.1) refl
edited-takes w commit answer (first ∷ rest) new h = rw (h.0, h.1) refl

edit-refuses-by : (error : RecordError) (f : Option Fault) (w : World) (commit : ℕ) (new : List Reply) → fault_of error ≡ f → Replies (message_text w.session commit) (option_map BrokenEdit f) w.edits new → Refuses error w (after_edit w commit w.edits) (with_edits w new)
edit-refuses-by error None w commit new e h = out_of_memory e (record { reads = refl; edits = h; texts = refl; frames = refl })
edit-refuses-by error (Some fault) w commit new e h =
    faulty fault (edited-takes w commit (BrokenEdit fault) w.edits new h) (subst (λ (f : Option Fault). MatchOption f (Unit {0}) (λ x. x ≡ fault)) (sym e) refl)

module _ (error : RecordError) (a : Setting) (s : Session) (frames : ℕ) (commit : ℕ) (kind : TerminalKind) (reads : List Read) (edits : List Reply) (same_kind : kind ≡ a.kind) (same_reads : reads ≡ a.reads) where
  -- a fault in place of an edit
  pub edit-refuses : Replies (message_text s commit) (option_map BrokenEdit (fault_of error)) a.edits edits → Refuses error (world_in a s frames) (after_edit (world_in a s frames) commit a.edits) (world_in (setting kind reads edits a.store) s frames)
  edit-refuses h = rw (same_kind, same_reads) (edit-refuses-by error (fault_of error) (world_in a s frames) commit edits refl h)

  -- an answer that is too long
  pub edit-too_long : (text : List ℕ) → Replies (message_text s commit) (Some (Answer text)) a.edits edits → is_short_text text ≡ false → IsFault too_long error → Refuses error (world_in a s frames) (after_edit (world_in a s frames) commit a.edits) (world_in (setting kind reads edits a.store) s frames)
  edit-too_long text h long f =
      let v = with_edits (world_in a s frames) edits in
      let long-outcome = ap (λ (b : Bool). cond b (Goes (with_session v (with_message s commit text))) (Breaks too_long v)) long in
      rw (same_kind, same_reads) (faulty too_long (edited-takes (world_in a s frames) commit (Answer text) a.edits edits h ∙ long-outcome) f)

-- a place that the store lacks
pub shoot-refuses : (error : RecordError) (w : World) (place : ℕ) (text : List ℕ) → nat_lt place (length w.texts) ≡ false → IsFault no_such_place error → Refuses error w (after_screenshot w place text) w
shoot-refuses error w place text lacks f =
    faulty no_such_place (ap (λ (b : Bool). cond b (Goes (with_text w place text)) (Breaks no_such_place w)) lacks) f

-- ---- turns

-- what is shown in a scene is shown in the same scene
pub shown-as : (IsSeen : Scene → Type 0) (kind kind' : TerminalKind) (drawn : Session) → kind ≡ kind' → IsSeen (scene_of kind drawn) → IsSeen (scene_of kind' drawn)
shown-as IsSeen kind kind' drawn e h = subst (λ (k : TerminalKind). IsSeen (scene_of k drawn)) e h

module _ (a : Setting) (s0 s s1 : Session) (frames : ℕ) (kind : TerminalKind) (reads : List Read) (edits : List Reply) (store : Store) (events : List Event) (is_drawn : s ≡ after_frame s0) (is_counted : store ≡ with_frame a.store) (same_kind : kind ≡ a.kind) (begins : batch (world_in a s (frames + 1)) s.pending ≡ Within s (world_in (setting a.kind reads edits a.store) s1 (frames + 1)) events) where
  -- a frame is drawn, and a batch begins
  pub turn-begins : Reaches (Before (world_in a s0 frames)) (Within s (world_in (setting kind reads edits store) s1 (frames + 1)) events)
  turn-begins =
      let drawn : Reaches (Before (world_in a s0 frames)) (batch (world_in a s (frames + 1)) s.pending) =
      subst (λ (x : Session). Reaches (Before (world_in a s0 frames)) (batch (world_in a x (frames + 1)) x.pending)) (sym is_drawn) (on (on here)) in
      let begun = subst (λ (p : Point). Reaches (Before (world_in a s0 frames)) p) begins drawn in
      let counted = subst (λ (y : Store). Reaches (Before (world_in a s0 frames)) (Within s (world_in (setting a.kind reads edits y) s1 (frames + 1)) events)) (sym is_counted) begun in
      subst (λ (k : TerminalKind). Reaches (Before (world_in a s0 frames)) (Within s (world_in (setting k reads edits store) s1 (frames + 1)) events)) (sym same_kind) counted

  -- and the turn goes as its batch
  pub turn-goes : (IsSeen : Scene → Type 0) (handled : List Event) (next : Next) (t : Session) (b : Setting) → handled ≡ events → IsSeen (scene_of a.kind s) → Handles IsSeen handled next s1 (setting kind reads edits store) t b → Reaches (Before (world_in a s0 frames)) (point_of next (world_in b t (frames + 1)))
  turn-goes IsSeen handled next t b e h k =
      let seen = shown-as IsSeen a.kind kind s (sym same_kind) h in
      reaches-trans turn-begins (subst (λ (list : List Event). Reaches (Within s (world_in (setting kind reads edits store) s1 (frames + 1)) list) (point_of next (world_in b t (frames + 1)))) e (k s (frames + 1) seen))

  -- or ends with it
  pub turn-ceases : (IsSeen : Scene → Type 0) (handled : List Event) (error : RecordError) (t : Session) (b : Setting) → handled ≡ events → IsSeen (scene_of a.kind s) → Ceases IsSeen handled error s1 (setting kind reads edits store) t b → Stops error (Before (world_in a s0 frames)) (world_in b t (frames + 1))
  turn-ceases IsSeen handled error t b e h k =
      let seen = shown-as IsSeen a.kind kind s (sym same_kind) h in
      stops-after error _ _ _ turn-begins (subst (λ (list : List Event). Stops error (Within s (world_in (setting kind reads edits store) s1 (frames + 1)) list) (world_in b t (frames + 1))) e (k s (frames + 1) seen))

-- no memory for a frame, which is not counted then
pub undrawn-stops : (error : RecordError) (a : Setting) (s t : Session) (store : Store) (frames : ℕ) → error ≡ OutOfMemory → store ≡ a.store → Stops error (Before (world_in a s frames)) (world_in (setting a.kind a.reads a.edits store) t frames)
undrawn-stops error a s t store frames e k =
    stops-memory error (Before (world_in a s frames)) (Before (world_in a s frames)) _ (ap fault_of e) here (record { reads = refl; edits = refl; texts = ap (λ (y : Store). y.texts) k; frames = refl })

-- the same for a turn
pub undrawn-turn : (error : RecordError) (a : Setting) (s t : Session) (store : Store) → error ≡ OutOfMemory → store ≡ a.store → TurnStops error s a t (setting a.kind a.reads a.edits store)
undrawn-turn error a s t store e k = record {
  drawn = 0;
  few = omega arith;
  counted = ap (λ (y : Store). y.frames) k;
  stops = λ frames. rw add-zero (undrawn-stops error a s t store frames e k);
}

-- a turn that stops once its frame is drawn and counted
pub drawn-turn : (error : RecordError) (s t : Session) (a b : Setting) (store : Store) → store ≡ with_frame a.store → b.store.frames ≡ store.frames → ((frames : ℕ) → Stops error (Before (world_in a s frames)) (world_in b t (frames + 1))) → TurnStops error s a t b
drawn-turn error s t a b store e k h = record {
  drawn = 1;
  few = omega arith;
  counted = k ∙ ap (λ (y : Store). y.frames) e;
  stops = h;
}

module _ (a : Setting) (s0 s : Session) (frames : ℕ) (store : Store) (is_drawn : s ≡ after_frame s0) (is_counted : store ≡ with_frame a.store) where
  -- no batch comes
  pub no_batch-stops : (error : RecordError) (kind : TerminalKind) (reads : List Read) (edits : List Reply) (t : Session) → kind ≡ a.kind
      → BatchStops error (batch (world_in a s (frames + 1)) s.pending) (world_in a s (frames + 1)) (world_in (setting a.kind reads edits a.store) t (frames + 1))
      → Stops error (Before (world_in a s0 frames)) (world_in (setting kind reads edits store) t (frames + 1))
  no_batch-stops error kind reads edits t same_kind h =
      let there : BatchStops error (batch (with_frame_drawn (world_in a s0 frames)) s0.pending) (with_frame_drawn (world_in a s0 frames)) (world_in (setting a.kind reads edits a.store) t (frames + 1)) =
      subst (λ (x : Session). BatchStops error (batch (world_in a x (frames + 1)) x.pending) (world_in a x (frames + 1)) (world_in (setting a.kind reads edits a.store) t (frames + 1))) is_drawn h in
      let stops = batch-stops error (world_in a s0 frames) (world_in (setting a.kind reads edits a.store) t (frames + 1)) there in
      let counted = subst (λ (y : Store). Stops error (Before (world_in a s0 frames)) (world_in (setting a.kind reads edits y) t (frames + 1))) (sym is_counted) stops in
      subst (λ (k : TerminalKind). Stops error (Before (world_in a s0 frames)) (world_in (setting k reads edits store) t (frames + 1))) (sym same_kind) counted

-- what has the size of a screen has that of the same screen
pub sized-as : (HasThisSize : TerminalKind → Type 0) (kind kind' : TerminalKind) → kind ≡ kind' → HasThisSize kind → HasThisSize kind'
sized-as HasThisSize kind kind' e h = subst HasThisSize e h
