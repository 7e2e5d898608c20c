-- A run in which no commit has a message asks for no edit.
use Rattle.std.proofs.Common.{◌≡◌, ℕ, Bool, true, false, List, [], ◌∷◌, length, Option, Some, None, cond, ap, ◌∙◌, refl}
use Rattle.std.specs.Prelude.{MatchOption, is_some, nat_lt}
use Rattle.scm_errors.specs.declared.error.RecordError.{RecordError}
use Rattle.scm_types.specs.declared.file.File.{File}
use Rattle.scm_types.specs.declared.state.Commit.{Commit}
use Rattle.scm_types.specs.declared.state.RecordState.{RecordState}
use Rattle.scm_errors.specs.Fault.{Fault, fault_of}
use Rattle.scm_input.specs.declared.events.Event.{Event}
use Rattle.scm_record.specs.declared.session.Flow.{Flow}
use Rattle.scm_record.specs.declared.session.Flow.TheVariants as flows
use Rattle.scm_input.specs.Script.{Read, Batch, BrokenRead, Reply}
use Rattle.scm_selection.specs.Toggle.{with_key_toggled, with_all_inverted, with_all_set}
use Rattle.scm_record.specs.Session.{Session, message_of}
use Rattle.scm_record.specs.Frames.{Scene, scene_of}
use Rattle.scm_record.specs.FrameQueries.{shot_of}
use Rattle.scm_record.specs.Step.{change}
use Rattle.scm_record.specs.Run.{World, with_session, with_text, Goes, Breaks, no_such_place, Point, Before, Drawn, Within, Accepted, Failed, outcome_by, resume, next_read, batch, after, Reaches, here, on, world_at, IsSameButSession, Stops}
use Rattle.scm_record.proofs.StepLemmas as steps
use Rattle.scm_record.proofs.StepLemmas.{Allows, Marks, toggled, inverted, all_set, leads, message_at}

commits-same : (read_only : Bool) (s : Session) (f : List File → List File) → (cond read_only s (record s { shown = record s.shown { state = record s.shown.state { files = f s.shown.state.files } } })).shown.state.commits ≡ s.shown.state.commits
commits-same true s f = refl
commits-same false s f = refl

-- an event changes no commit
pub marks-commits : (s : Session) (state : RecordState) (flow : Flow) → Marks s state flow → state.commits ≡ s.shown.state.commits
marks-commits s _ _ (steps.unmarked allowed) = refl
marks-commits s _ _ toggled = commits-same s.shown.state.is_read_only s (with_key_toggled s.shown.selection)
marks-commits s _ _ inverted = commits-same s.shown.state.is_read_only s with_all_inverted
marks-commits s _ _ all_set = commits-same s.shown.state.is_read_only s with_all_set

-- the edits are left as they were, and there is still no message
record IsUnedited (edits : List Reply) (w : World) : Type 0 where
  messages : (commit : ℕ) → message_of w.session commit ≡ None
  left : w.edits ≡ edits

-- without a message none is edited
no-message : {A : Type 0} (message : Option A) → message ≡ None → is_some message ≡ true → ⊥
no-message None e h = cc
no-message (Some text) e h = cc

module _ (edits : List Reply) where
  shot-unedited : (drawn : Session) (rest : List Event) (b : Bool) (w v : World) → IsUnedited edits w → IsUnedited edits v → IsUnedited edits (world_at (resume drawn rest (cond b (Goes v) (Breaks no_such_place w))))
  shot-unedited drawn rest true w v h k = k
  shot-unedited drawn rest false w v h k = h

  outcome-unedited : (scene : Scene) (drawn : Session) (rest : List Event) (w : World) (flow : Flow) → Allows w.session flow → IsUnedited edits w → IsUnedited edits (world_at (resume drawn rest (outcome_by scene w flow)))
  outcome-unedited scene drawn rest w flows.GoOn k h = h
  outcome-unedited scene drawn rest w flows.Accept k h = h
  outcome-unedited scene drawn rest w flows.Cancel k h = h
  outcome-unedited scene drawn rest w (flows.Edit commit) k h = absurd (no-message (message_of w.session commit) (h.messages commit) k)
  outcome-unedited scene drawn rest w (flows.Shoot place) k h = shot-unedited drawn rest (nat_lt place (length w.texts)) w (with_text w place (shot_of scene w.session.cleared)) h (record { messages = h.messages; left = h.left })

  read-unedited : (w : World) (reads : List Read) → IsUnedited edits w → IsUnedited edits (world_at (next_read w reads))
  read-unedited w [] h = h
  read-unedited w (Batch list ∷ reads) h = record { messages = h.messages; left = h.left }
  read-unedited w (BrokenRead fault ∷ reads) h = record { messages = h.messages; left = h.left }

  batch-unedited : (w : World) (pending : List Event) → IsUnedited edits w → IsUnedited edits (world_at (batch w pending))
  batch-unedited w [] h = read-unedited w w.reads h
  batch-unedited w (event ∷ rest) h = record { messages = h.messages; left = h.left }

  after-unedited : (p : Point) → IsUnedited edits (world_at p) → IsUnedited edits (world_at (after p))
  after-unedited (Before w) h = record { messages = h.messages; left = h.left }
  after-unedited (Drawn w) h = batch-unedited w w.session.pending h
  after-unedited (Within drawn w []) h = h
  after-unedited (Within drawn w (event ∷ rest)) h =
      let scene = scene_of w.kind drawn in
      let c = change scene w.session event in
      let marks = (leads scene w.session event).marks in
      let same = marks-commits w.session c.session.shown.state c.flow marks in
      outcome-unedited scene drawn rest (with_session w c.session) c.flow (steps.marks-allow w.session c.session c.session.shown.state c.flow marks refl)
      (record { messages = λ commit. ap (λ (cs : List Commit). message_at cs commit) same ∙ h.messages commit; left = h.left })
  after-unedited (Accepted w) h = h
  after-unedited (Failed fault w) h = h

  reaches-unedited : (p : Point) {q : Point} → Reaches p q → IsUnedited edits (world_at p) → IsUnedited edits (world_at q)
  reaches-unedited p here h = h
  reaches-unedited p (on {q = q} r) h = after-unedited q (reaches-unedited p r h)

module _ (w : World) (none : (commit : ℕ) → message_of w.session commit ≡ None) where
  -- where a run is accepted
  pub unedited-reached : (q : Point) → Reaches (Before w) q → (world_at q).edits ≡ w.edits
  unedited-reached q r = (reaches-unedited w.edits (Before w) r (record { messages = none; left = refl })).left

  stopped-by : (f : Option Fault) (v : World) → MatchOption f ((q : Point) × Reaches (Before w) q × IsSameButSession v (world_at q)) (λ fault. Reaches (Before w) (Failed fault v)) → v.edits ≡ w.edits
  stopped-by None v h = h.2.edits ∙ unedited-reached h.0 h.1
  stopped-by (Some fault) v h = unedited-reached (Failed fault v) h

  -- and where it stops
  pub unedited-stopped : (error : RecordError) (v : World) → Stops error (Before w) v → v.edits ≡ w.edits
  unedited-stopped error v h = stopped-by (fault_of error) v h
