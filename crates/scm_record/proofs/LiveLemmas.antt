-- A live session goes by the steps of a run. Other crates may use these lemmas.
use Rattle.std.proofs.Common.{◌≡◌, ℕ, ◌+◌, ◌-◌, ◌<◌, ◌≤◌, Bool, true, false, IsTrue, cond, List, [], ◌∷◌, ◌++◌, length, sym, ap, ◌∙◌, refl, subst, arith}
use Rattle.std.specs.Prelude.{nat_lt}
use Rattle.std.proofs.lemmas.Bool.{le-ltb}
use Rattle.scm_errors.specs.declared.error.RecordError.{RecordError}
use Rattle.scm_errors.specs.declared.error.RecordError.TheVariants.{OutOfMemory, Cancelled as cancelled}
use Rattle.scm_errors.specs.Fault.{Cancelled, fault_of}
use Rattle.scm_types.specs.declared.state.RecordState.{RecordState}
use Rattle.scm_input.specs.declared.events.Event.{Event}
use Rattle.scm_input.specs.declared.inputs.TerminalKind.{TerminalKind}
use Rattle.scm_input.specs.Script.{Read, Batch, Reply, no_events_left}
use Rattle.scm_record.specs.declared.session.Flow.{Flow}
use Rattle.scm_record.specs.declared.session.Flow.TheVariants as flows
use Rattle.scm_record.specs.Session.{Session, IsDrawable, after_frame, start, with_message, without_pending}
use Rattle.scm_record.specs.declared.frame.DrawnFrame.{DrawnFrame}
use Rattle.scm_view.specs.Frame.{Frame}
use Rattle.scm_record.specs.Frames.{HasSize, IsSceneOf, Scene, columns_of, rows_of, scene_of}
use Rattle.scm_record.specs.FrameQueries.{hit, shot_of}
use Rattle.scm_record.specs.Step.{change}
use Rattle.scm_record.specs.Run.{Setting, World, world_in, with_session, Outcome, Goes, Breaks, Point, Before, Drawn, Within, Accepted, no_such_place, too_long, after_screenshot, after_edit, resume, batch, Reaches, here, on, world_at, Stops}
use Rattle.scm_record.specs.RunContracts.{IsFault}
use Rattle.scm_record.specs.Batches.{HandlesBatch, point_by}
use Rattle.scm_record.specs.Live.{Live, LiveEdit, on_screen}
use Rattle.scm_record.specs.declared.live.Turn.{Turn}
use Rattle.scm_record.specs.declared.live.Turn.TheVariants.{Waiting, Editing, Accepted as Done}
use Rattle.scm_record.specs.LiveCalls.{live_setting, fixed_reply, waiting_point, editing_point, Leads, Fails, BatchLeads, EventLeads, MessageLeads, Call, Press, PressAll, Say, Resize, is_on_one_screen, Path, still, press, press_all, say, resize, reads_of, edits_of, beginning, run_of, IsConfirmed, IsRun, AreRuns, last, resized, EndsIn, press_fails, press_all_fails, say_fails, IsFailedRun}
use Rattle.scm_record.specs.Headline.{ConfirmsQuit, IsInline, owner_at, window_of}
use Rattle.scm_record.specs.Keeping.{IsKept}
use Rattle.scm_record.proofs.BatchLemmas.{batches-are-handled, batches-begin-as-drawn}
use Rattle.scm_record.proofs.DrawableLemmas.{reaches-drawable}
use Rattle.scm_record.proofs.ShotLemmas.{clicks-hit-owners, frame-plain, hit-on_screen}
use Rattle.scm_record.proofs.QuitLemmas.{accepted-confirmed, failed-unconfirmed, fault-unconfirmed}
use Rattle.scm_record.proofs.KeepingLemmas.{Kept, is-kept, reaches-kept, start-kept}
use Rattle.scm_types.specs.Limits.{is_accepted_state, is_short_text, max_scroll}
use Rattle.scm_record.proofs.Budget.{rank_of, turns_of}
use Rattle.scm_record.proofs.BudgetLemmas.{rank_of-some, reaches-fits, turns-fall}
use Rattle.scm_record.proofs.RunLemmas.{reaches-trans, step-of, stops-fault, stops-memory, stops-after}
use Rattle.scm_record.proofs.AcceptedLemmas.{start-drawable}

-- a frame of what can be drawn can be drawn
pub drawn-drawable : (t u : Session) → u ≡ without_pending (after_frame t) → IsDrawable t → IsDrawable u
drawn-drawable t u f h = subst IsDrawable (sym f) (record { accepted = h.accepted; scroll = h.scroll })

no-place : (place : ℕ) → nat_lt place 0 ≡ false
no-place place = le-ltb place 0 (omega arith)

-- ---- paths

-- what leads later leads
pub leads-after : (p q : Point) (kind : TerminalKind) (reads : List Read) (edits : List Reply) (turn : Turn) → Reaches p q → Leads q kind reads edits turn → Leads p kind reads edits turn
leads-after p q kind reads edits (Waiting l) r h = (h.0, h.1, h.2, reaches-trans r h.3)
leads-after p q kind reads edits (Editing a) r h = (h.0, h.1, h.2, h.3, reaches-trans r h.4)
leads-after p q kind reads edits (Done state) r h = (h.0, h.1, h.2, reaches-trans r h.3)

-- what stops with an error fails with it
failing : (error : RecordError) (p : Point) (w : World) → Stops error p w → Fails p error
failing error p w h = (w, h, (tt, failed-unconfirmed error p w h))

-- what fails later fails
pub fails-after : (p q : Point) (error : RecordError) → Reaches p q → Fails q error → Fails p error
fails-after p q error r h = failing error p h.0 (stops-after error p q h.0 r h.1)

-- where memory is refused
pub fails-memory : (p : Point) (error : RecordError) → error ≡ OutOfMemory → Fails p error
fails-memory p error e = failing error p (world_at p) (stops-memory error p p (world_at p) (ap fault_of e) here (record { reads = refl; edits = refl; texts = refl; frames = refl }))

module _ (a : Setting) (drawn t : Session) (frames : ℕ) (flow : Flow) (rest : List Event) where
  abbrev End : Point
  End = point_by a drawn t frames flow rest

  -- the end of a batch, where it is known what follows
  follows : (known : Flow) → flow ≡ known → Reaches End (point_by a drawn t frames known rest)
  follows known e = subst (λ (f : Flow). Reaches End (point_by a drawn t frames f rest)) e here

  -- the point before the next frame
  pub frames-next : flow ≡ flows.GoOn → (flow ≡ flows.GoOn → rest ≡ []) → Reaches End (Before (world_in a t frames))
  frames-next e all = on (subst (λ (l : List Event). Reaches End (Within drawn (world_in a t frames) l)) (all e) (follows flows.GoOn e))

  -- the end
  pub ends : flow ≡ flows.Accept → Reaches End (Accepted (world_in a t frames))
  ends e = follows flows.Accept e

  -- a message is asked for
  pub edits : (commit : ℕ) → flow ≡ flows.Edit commit → Reaches End (resume drawn rest (after_edit (world_in a t frames) commit a.edits))
  edits commit e = follows (flows.Edit commit) e

  -- the user gives up
  pub gives-up : flow ≡ flows.Cancel → Fails End cancelled
  gives-up e = failing cancelled End (world_in a t frames) (stops-fault cancelled Cancelled End (world_in a t frames) (follows flows.Cancel e) refl)

  -- a screenshot without a store
  pub lacks-place : (place : ℕ) → flow ≡ flows.Shoot place → a.store.texts ≡ [] → (error : RecordError) → IsFault no_such_place error → Fails End error
  lacks-place place e none error f =
      let w = world_in a t frames in
      let lacks : nat_lt place (length w.texts) ≡ false = rw none (no-place place) in
      let broken : after_screenshot w place (shot_of (scene_of a.kind drawn) t.cleared) ≡ Breaks no_such_place w = rw lacks refl in
      failing error End w (stops-fault error no_such_place End w (subst (λ (o : Outcome). Reaches End (resume drawn rest o)) broken (follows (flows.Shoot place) e)) f)

module _ (IsSeen : Scene → Type 0) (list rest : List Event) (s t : Session) (flow : Flow) (handles : HandlesBatch IsSeen list s flow rest t) (kind : TerminalKind) (drawn : Session) (seen : IsSeen (scene_of kind drawn)) where
  -- what it leaves pending takes fewer turns
  handled-low : flow ≡ flows.GoOn → (r : ℕ) → s.pending ≡ [] → rank_of list ≤ r + 1 → rank_of t.pending ≤ r
  handled-low e r calm k =
      let a = live_setting kind [] [] in
      let none : rank_of s.pending ≡ 0 = ap rank_of calm in
      let way = reaches-trans (handles.reached a drawn 0 seen) (frames-next a drawn t 0 flow rest e handles.all) in
      let left = reaches-fits r (Within drawn (world_in a s 0) list) way (r, k, omega arith, omega arith) in
      omega (arith, left)

  pub handled-falls : s.pending ≡ [] → 0 < length list → turns_of flow t.pending < rank_of list + 1
  handled-falls calm some = turns-fall flow t.pending (rank_of list) (λ e.
      let low = handled-low e (rank_of list - 1) calm (omega (arith, rank_of-some list some)) in
      omega (arith, low, rank_of-some list some))

-- the next frame after an event
module _ (a : Setting) (drawn s t : Session) (frames : ℕ) (event : Event) (flow : Flow) (is : change (scene_of a.kind drawn) s event ≡ record { session = t; flow = flow }) where
  pub goes : flow ≡ flows.GoOn → Reaches (Within drawn (world_in a s frames) (event ∷ [])) (Drawn (world_in a (after_frame t) (frames + 1)))
  goes e =
      let p = Within drawn (world_in a s frames) (event ∷ []) in
      on (on (subst (λ (o : Outcome). Reaches p (resume drawn [] o)) (step-of (scene_of a.kind drawn) a s t frames event flow flows.GoOn is e) (on here)))

-- a frame has the size of the screen whose scene it shows
pub shown-sized : (kind : TerminalKind) (drawn : Session) (frame : DrawnFrame) → IsSceneOf (scene_of kind drawn) frame → HasSize kind frame
shown-sized kind drawn frame h = record { width = h.width; height = h.height }

-- with nothing pending nothing is taken
pub calm-session : (t u : Session) → [] ≡ t.pending → u ≡ without_pending (after_frame t) → after_frame t ≡ u
calm-session t u e f = ap (λ (list : List Event). record t { cleared = false; pending = list }) (sym e) ∙ sym f

-- a frame with nothing pending: the session waits
pub comes-to-wait : (p : Point) (kind : TerminalKind) (reads : List Read) (edits : List Reply) (t u : Session) (frames : ℕ)
    → [] ≡ t.pending → u ≡ without_pending (after_frame t) → Reaches p (Drawn (world_in (live_setting kind reads edits) (after_frame t) frames)) → Leads p kind reads edits (Waiting (record { session = u; kind = kind }))
comes-to-wait p kind reads edits t u frames e f r =
    (frames, refl, ap (λ (s : Session). s.pending) f, subst (λ (x : Session). Reaches p (Drawn (world_in (live_setting kind reads edits) x frames))) (calm-session t u e f) r)

-- the same of the session that is known to wait there
pub waits-at : (p : Point) (kind : TerminalKind) (reads : List Read) (edits : List Reply) (s : Session) (frames : ℕ) (l : Live)
    → s.pending ≡ [] → l ≡ record { session = after_frame s; kind = kind } → Reaches p (Before (world_in (live_setting kind reads edits) s frames)) → Leads p kind reads edits (Waiting l)
waits-at p kind reads edits s frames l calm e r =
    subst (λ (x : Live). Leads p kind reads edits (Waiting x)) (sym e) (frames + 1, refl, calm, on r)

pub none-pending : (list : List Event) (has : Bool) → (0 < length list → has ≡ true) → has ≡ false → list ≡ []
none-pending [] has h e = refl
none-pending (event ∷ rest) has h e = let some : has ≡ true = h (omega arith) in cc

begins : (p : Point) (w : World) (list : List Event) → 0 < length list → Reaches p (batch w list) → Reaches p (Within w.session (with_session w (without_pending w.session)) list)
begins p w [] k r = absurd (omega arith)
begins p w (event ∷ rest) k r = r

-- a frame with events pending: they are handled
pub comes-to-batch : (p : Point) (a : Setting) (t u : Session) (frames : ℕ) (list : List Event)
    → list ≡ t.pending → 0 < length list → u ≡ without_pending (after_frame t) → Reaches p (Drawn (world_in a (after_frame t) frames)) → Reaches p (Within (after_frame t) (world_in a u frames) list)
comes-to-batch p a t u frames list e k f r =
    let w = world_in a (after_frame t) frames in
    let begun : Reaches p (batch w list) = subst (λ (events : List Event). Reaches p (batch w events)) (sym e) (on r) in
    subst (λ (x : Session). Reaches p (Within (after_frame t) (world_in a x frames) list)) (sym f) (begins p w list k begun)

-- the same of one event
pub comes-to-handle : (p : Point) (a : Setting) (t u : Session) (frames : ℕ) (next : Event)
    → next ∷ [] ≡ t.pending → u ≡ without_pending (after_frame t) → Reaches p (Drawn (world_in a (after_frame t) frames)) → Reaches p (Within (after_frame t) (world_in a u frames) (next ∷ []))
comes-to-handle p a t u frames next e f r = comes-to-batch p a t u frames (next ∷ []) e (omega arith) f r

-- ---- calls

-- a batch that is handed in is read
pub reads-batch : (l : Live) (list : List Event) (reads : List Read) (edits : List Reply) (frames : ℕ) → l.session.pending ≡ []
    → Reaches (waiting_point l (Batch list ∷ reads) edits frames) (Within l.session (world_in (live_setting l.kind reads edits) l.session frames) list)
reads-batch l list reads edits frames e =
    let p = waiting_point l (Batch list ∷ reads) edits frames in
    subst (λ (pending : List Event). Reaches p (batch (world_in (live_setting l.kind (Batch list ∷ reads) edits) l.session frames) pending)) e (on here)

-- an event that is handed in is read
pub reads-event : (l : Live) (event : Event) (reads : List Read) (edits : List Reply) (frames : ℕ) → l.session.pending ≡ []
    → Reaches (waiting_point l (Batch (event ∷ []) ∷ reads) edits frames) (Within l.session (world_in (live_setting l.kind reads edits) l.session frames) (event ∷ []))
reads-event l event reads edits frames e = reads-batch l (event ∷ []) reads edits frames e

module _ (a : LiveEdit) (text : List ℕ) (drawn : Session) (reads : List Read) (edits : List Reply) (frames : ℕ) where
  abbrev Asked : Point
  Asked = editing_point drawn a reads (fixed_reply text ∷ edits) frames

  abbrev said : Session
  said = with_message a.session a.commit text

  -- after a message that is handed in the rest of its batch follows
  says-message : true ≡ is_short_text text → Reaches Asked (Within drawn (world_in (live_setting a.kind reads edits) said frames) a.rest)
  says-message e =
      let w = world_in (live_setting a.kind reads edits) a.session frames in
      subst (λ (b : Bool). Reaches Asked (resume drawn a.rest (cond b (Goes (with_session w said)) (Breaks too_long w)))) (sym e) here

  -- the same of the session that is known to say it, and of the list that is known to be the rest
  pub says-on : (t : Session) (rest : List Event) → t ≡ said → rest ≡ a.rest → true ≡ is_short_text text → Reaches Asked (Within drawn (world_in (live_setting a.kind reads edits) t frames) rest)
  says-on t rest e left short =
      subst (λ (l : List Event). Reaches Asked (Within drawn (world_in (live_setting a.kind reads edits) t frames) l)) (sym left)
      (subst (λ (s : Session). Reaches Asked (Within drawn (world_in (live_setting a.kind reads edits) s frames) a.rest)) (sym e) (says-message short))

  -- one that is too long is a fault
  pub says-too-long : false ≡ is_short_text text → (error : RecordError) → IsFault too_long error → Fails Asked error
  says-too-long e error f =
      let w = world_in (live_setting a.kind reads edits) a.session frames in
      let long : Reaches Asked (resume drawn a.rest (cond false (Goes (with_session w said)) (Breaks too_long w))) = subst (λ (b : Bool). Reaches Asked (resume drawn a.rest (cond b (Goes (with_session w said)) (Breaks too_long w)))) (sym e) here in
      failing error Asked w (stops-fault error too_long Asked w long f)

-- ---- any calls

-- from a turn that the steps lead to they lead to the next one
handles-on : (p : Point) (kind : TerminalKind) (l : Live) (list : List Event) (turn : Turn) (reads : List Read) (edits : List Reply)
    → BatchLeads l list turn → Leads p kind (Batch list ∷ reads) edits (Waiting l) → Leads p kind reads edits turn
handles-on p kind l list turn reads edits g h =
    let q = waiting_point l (Batch list ∷ reads) edits h.0 in
    leads-after p q kind reads edits turn h.3 (subst (λ (k : TerminalKind). Leads q k reads edits turn) h.1 (g reads edits h.0))

answers-on : (p : Point) (kind : TerminalKind) (a : LiveEdit) (text : List ℕ) (turn : Turn) (reads : List Read) (edits : List Reply)
    → MessageLeads a text turn → Leads p kind reads (fixed_reply text ∷ edits) (Editing a) → Leads p kind reads edits turn
answers-on p kind a text turn reads edits g h =
    let q = editing_point h.0 a reads (fixed_reply text ∷ edits) h.1 in
    leads-after p q kind reads edits turn h.4 (subst (λ (k : TerminalKind). Leads q k reads edits turn) h.2 (g h.0 reads edits h.1 h.3))

-- on one screen, from turn to turn
path-leads : (reads : List Read) (edits : List Reply) (p : Point) (kind : TerminalKind) {turn end : Turn} {calls : List Call}
    → IsTrue (is_on_one_screen calls) → Path turn calls end → Leads p kind (reads_of calls ++ reads) (edits_of calls ++ edits) turn → Leads p kind reads edits end
path-leads reads edits p kind k still h = h
path-leads reads edits p kind k (press {l = l} {event = event} {turn = turn} {calls = calls} g path) h =
    path-leads reads edits p kind k path (handles-on p kind l (event ∷ []) turn (reads_of calls ++ reads) (edits_of calls ++ edits) g h)
path-leads reads edits p kind k (press_all {l = l} {list = list} {turn = turn} {calls = calls} g path) h =
    path-leads reads edits p kind k path (handles-on p kind l list turn (reads_of calls ++ reads) (edits_of calls ++ edits) g h)
path-leads reads edits p kind k (say {a = a} {text = text} {turn = turn} {calls = calls} g path) h =
    path-leads reads edits p kind k path (answers-on p kind a text turn (reads_of calls ++ reads) (edits_of calls ++ edits) g h)
path-leads reads edits p kind k (resize path) h = cc

-- with no reads and edits to come a run that waits ends in a fault
is-confirmed : (w : World) (kind : TerminalKind) (turn : Turn) → Leads (Before w) kind [] [] turn → IsConfirmed (Before w) turn
is-confirmed w kind (Waiting l) h =
    let v = world_in (live_setting l.kind [] []) l.session h.0 in
    fault-unconfirmed (Before w) no_events_left v (subst (λ (list : List Event). Reaches (Before w) (batch v list)) h.2 (on h.3))
is-confirmed w kind (Editing a) h = fault-unconfirmed (Before w) _ (world_in (live_setting a.kind [] []) a.session h.1) h.4
is-confirmed w kind (Done state) h = subst (λ (x : RecordState). ConfirmsQuit (Before w) x) h.2 (accepted-confirmed w _ h.3)

-- a call more is a read or an edit more, behind those before it
reads-last : (calls : List Call) (call : Call) (reads : List Read) → reads_of calls ++ (reads_of (call ∷ []) ++ reads) ≡ reads_of (calls ++ call ∷ []) ++ reads
reads-last [] call reads = refl
reads-last (Press event ∷ calls) call reads = ap (λ (list : List Read). Batch (event ∷ []) ∷ list) (reads-last calls call reads)
reads-last (PressAll events ∷ calls) call reads = ap (λ (list : List Read). Batch events ∷ list) (reads-last calls call reads)
reads-last (Say text ∷ calls) call reads = reads-last calls call reads
reads-last (Resize kind ∷ calls) call reads = reads-last calls call reads

edits-last : (calls : List Call) (call : Call) (edits : List Reply) → edits_of calls ++ (edits_of (call ∷ []) ++ edits) ≡ edits_of (calls ++ call ∷ []) ++ edits
edits-last [] call edits = refl
edits-last (Press event ∷ calls) call edits = edits-last calls call edits
edits-last (PressAll events ∷ calls) call edits = edits-last calls call edits
edits-last (Say text ∷ calls) call edits = ap (λ (list : List Reply). fixed_reply text ∷ list) (edits-last calls call edits)
edits-last (Resize kind ∷ calls) call edits = edits-last calls call edits

module _ (s : Session) (kind : TerminalKind) (drawable : IsDrawable s) (calm : s.pending ≡ []) where
  -- with a call more, whose reads and edits come last
  called-last : (calls : List Call) (call : Call) (reads : List Read) (edits : List Reply)
      → beginning s kind calls (reads_of (call ∷ []) ++ reads) (edits_of (call ∷ []) ++ edits) ≡ beginning s kind (calls ++ call ∷ []) reads edits
  called-last calls call reads edits = rw (reads-last calls call reads) (rw (edits-last calls call edits) refl)

  -- calls on one screen are a run
  is-run : (calls : List Call) (turn : Turn) → IsTrue (is_on_one_screen calls) → Path (Waiting (record { session = after_frame s; kind = kind })) calls turn → IsRun s kind calls turn
  is-run calls turn k path =
      let w = world_in (live_setting kind (reads_of calls ++ []) (edits_of calls ++ [])) s 0 in
      let leads : (reads : List Read) (edits : List Reply) → Leads (beginning s kind calls reads edits) kind reads edits turn = λ reads edits. path-leads reads edits (beginning s kind calls reads edits) kind k path (1, refl, calm, on here) in
      record {
        leads = leads;
        handled = batches-are-handled w;
        begun = batches-begin-as-drawn (Before w);
        clicks = clicks-hit-owners w drawable;
        confirmed = is-confirmed w kind turn (leads [] []);
      }

  -- an event or a message after them with which the session ends in an error makes a run that fails with it
  is-failed-run : (calls : List Call) {turn : Turn} {call : Call} {error : RecordError} → IsTrue (is_on_one_screen calls)
      → Path (Waiting (record { session = after_frame s; kind = kind })) calls turn → EndsIn error turn call → IsFailedRun s kind (calls ++ call ∷ []) error
  is-failed-run calls {error = error} k path (press_fails {l = l} {event = event} g) = λ reads edits.
      let h = (is-run calls (Waiting l) k path).leads (Batch (event ∷ []) ∷ reads) edits in
      let p = beginning s kind calls (Batch (event ∷ []) ∷ reads) edits in
      subst (λ (q : Point). Fails q error) (called-last calls (Press event) reads edits)
      (fails-after p (waiting_point l (Batch (event ∷ []) ∷ reads) edits h.0) error h.3 (g reads edits h.0))
  is-failed-run calls {error = error} k path (press_all_fails {l = l} {list = list} g) = λ reads edits.
      let h = (is-run calls (Waiting l) k path).leads (Batch list ∷ reads) edits in
      let p = beginning s kind calls (Batch list ∷ reads) edits in
      subst (λ (q : Point). Fails q error) (called-last calls (PressAll list) reads edits)
      (fails-after p (waiting_point l (Batch list ∷ reads) edits h.0) error h.3 (g reads edits h.0))
  is-failed-run calls {error = error} k path (say_fails {a = a} {text = text} g) = λ reads edits.
      let h = (is-run calls (Editing a) k path).leads reads (fixed_reply text ∷ edits) in
      let p = beginning s kind calls reads (fixed_reply text ∷ edits) in
      subst (λ (q : Point). Fails q error) (called-last calls (Say text) reads edits)
      (fails-after p (editing_point h.0 a reads (fixed_reply text ∷ edits) h.1) error h.4 (g h.0 reads edits h.1 h.3))

-- ---- screen by screen

-- a path in parts, each on one screen
data Parts : Turn → List Call → Turn → Type 0 where
  one : {turn end : Turn} {calls : List Call} → IsTrue (is_on_one_screen calls) → Path turn calls end → Parts turn calls end
  more : {turn end : Turn} {l : Live} {other : TerminalKind} {calls later : List Call}
      → IsTrue (is_on_one_screen calls) → Path turn calls (Waiting l) → Parts (Waiting (on_screen l other)) later end → Parts turn (calls ++ Resize other ∷ later) end

press-first : {l : Live} {event : Event} {turn end : Turn} {calls : List Call} → EventLeads l event turn → Parts turn calls end → Parts (Waiting l) (Press event ∷ calls) end
press-first g (one k path) = one k (press g path)
press-first g (more k path parts) = more k (press g path) parts

press-all-first : {l : Live} {list : List Event} {turn end : Turn} {calls : List Call} → BatchLeads l list turn → Parts turn calls end → Parts (Waiting l) (PressAll list ∷ calls) end
press-all-first g (one k path) = one k (press_all g path)
press-all-first g (more k path parts) = more k (press_all g path) parts

say-first : {a : LiveEdit} {text : List ℕ} {turn end : Turn} {calls : List Call} → MessageLeads a text turn → Parts turn calls end → Parts (Editing a) (Say text ∷ calls) end
say-first g (one k path) = one k (say g path)
say-first g (more k path parts) = more k (say g path) parts

in-parts : {turn end : Turn} {calls : List Call} → Path turn calls end → Parts turn calls end
in-parts still = one refl still
in-parts (press g path) = press-first g (in-parts path)
in-parts (press_all g path) = press-all-first g (in-parts path)
in-parts (say g path) = say-first g (in-parts path)
in-parts (resize {l = l} {kind = kind} path) = more {l = l} {other = kind} refl still (in-parts path)

are-runs : (s : Session) (kind : TerminalKind) {calls : List Call} {turn : Turn} → IsDrawable s → s.pending ≡ [] → Parts (Waiting (record { session = after_frame s; kind = kind })) calls turn → AreRuns s kind calls turn
are-runs s kind drawable calm (one k path) = last k (is-run s kind drawable calm _ _ k path)
are-runs s kind drawable calm (more {l = l} {other = other} {calls = calls} k path parts) =
    let run = is-run s kind drawable calm calls (Waiting l) k path in
    let led = run.leads [] [] in
    resized k run (are-runs l.session other (reaches-drawable led.3 drawable) led.2 parts)

-- what is accepted is kept
runs-keep : (given state : RecordState) {s : Session} {kind : TerminalKind} {calls : List Call} → Kept given s.shown.state → AreRuns s kind calls (Done state) → Kept given state
runs-keep given state h (last {s = s} {kind = kind} {calls = calls} k run) =
    let led = run.leads [] [] in
    subst (λ (x : RecordState). Kept given x) led.2 (reaches-kept given (run_of s kind calls) led.3 h)
runs-keep given state h (resized {s = s} {kind = kind} {calls = calls} k run runs) =
    let led = run.leads [] [] in
    runs-keep given state (reaches-kept given (run_of s kind calls) led.3 h) runs

module _ (given : RecordState) (kind : TerminalKind) (calls : List Call) (accepted : IsTrue (is_accepted_state given)) where
  drawable : IsDrawable (start given)
  drawable = start-drawable given accepted

  pub session-is-run : (turn : Turn) → IsTrue (is_on_one_screen calls) → Path (Waiting (record { session = start given; kind = kind })) calls turn → IsRun (start given) kind calls turn
  session-is-run turn k path = is-run (start given) kind drawable refl calls turn k path

  pub session-fails : (turn : Turn) (call : Call) (error : RecordError) → IsTrue (is_on_one_screen calls)
      → Path (Waiting (record { session = start given; kind = kind })) calls turn → EndsIn error turn call → IsFailedRun (start given) kind (calls ++ call ∷ []) error
  session-fails turn call error k path ends = is-failed-run (start given) kind drawable refl calls k path ends

  pub sessions-are-runs : (turn : Turn) → Path (Waiting (record { session = start given; kind = kind })) calls turn → AreRuns (start given) kind calls turn
  sessions-are-runs turn path = are-runs (start given) kind drawable refl (in-parts path)

  pub sessions-keep : (state : RecordState) → Path (Waiting (record { session = start given; kind = kind })) calls (Done state) → IsKept given state
  sessions-keep state path = is-kept given state accepted (runs-keep given state (start-kept given) (sessions-are-runs (Done state) path))

-- ---- what is seen

-- inline the screen's rows are the window's
pub inline-window : (kind : TerminalKind) (drawn : Session) → IsInline kind drawn → (scene_of kind drawn).frame.rows ≡ window_of kind drawn
inline-window kind drawn h = ap (λ (f : Frame). f.rows) (frame-plain kind drawn h)

-- and what a click on it hits is the owner of the place
pub inline-owner : (kind : TerminalKind) (drawn : Session) (row column : ℕ) → IsInline kind drawn → drawn.scroll ≤ max_scroll → row < rows_of kind → column < columns_of kind
    → hit (scene_of kind drawn) drawn.scroll row column ≡ owner_at kind drawn (drawn.scroll + row) column
inline-owner kind drawn row column h low is_row is_column =
    hit-on_screen (scene_of kind drawn) drawn.scroll row column is_row is_column low
    ∙ ap (λ (f : Frame). f.owner (drawn.scroll + row) column) (frame-plain kind drawn h)
