-- What frames, batches, events and messages keep of a session, a run keeps.
use Rattle.std.proofs.Common.{◌≡◌, ℕ, Bool, true, false, List, [], ◌∷◌, length, cond, refl}
use Rattle.std.specs.Prelude.{is_some, nat_lt}
use Rattle.scm_types.specs.Limits.{is_short_text}
use Rattle.scm_input.specs.declared.events.Event.{Event}
use Rattle.scm_input.specs.Script.{Read, Batch, BrokenRead, Edit, Answer, BrokenEdit, Reply, no_messages_left}
use Rattle.scm_record.specs.declared.session.Flow.{Flow}
use Rattle.scm_record.specs.declared.session.Flow.TheVariants as flows
use Rattle.scm_record.specs.Session.{Session, after_frame, message_of, message_text, with_message, without_pending}
use Rattle.scm_record.specs.Frames.{Scene, scene_of}
use Rattle.scm_record.specs.FrameQueries.{shot_of}
use Rattle.scm_record.specs.Step.{change}
use Rattle.scm_record.specs.Run.{World, with_session, with_edits, with_text, Goes, Breaks, no_such_place, too_long, after_answer, after_edit, outcome_by, Point, Before, Drawn, Within, Accepted, Failed, resume, next_read, batch, after, Reaches, here, on, world_at}
use Rattle.scm_record.proofs.StepLemmas.{Allows, leads, marks-allow}

-- P stays true of a session
pub record IsInvariant (P : Session → Type 0) : Type 0 where
  pub drawn : (s : Session) → P s → P (after_frame s)
  pub begun : (s : Session) → P s → P (without_pending s)
  pub changed : (scene : Scene) (s : Session) (event : Event) → P s → P (change scene s event).session
  pub answered : (s : Session) (commit : ℕ) (text : List ℕ) → is_some (message_of s commit) ≡ true → is_short_text text ≡ true → P s → P (with_message s commit text)

module _ (P : Session → Type 0) (kept : IsInvariant P) where
  abbrev At : Point → Type 0
  At p = P (world_at p).session

  module _ (drawn : Session) (rest : List Event) where
    short-keeps : (b : Bool) (w : World) (commit : ℕ) (text : List ℕ) → is_short_text text ≡ b → is_some (message_of w.session commit) ≡ true → P w.session
        → At (resume drawn rest (cond b (Goes (with_session w (with_message w.session commit text))) (Breaks too_long w)))
    short-keeps true w commit text e m h = kept.answered w.session commit text m e h
    short-keeps false w commit text e m h = h

    answer-keeps : (w : World) (commit : ℕ) (edit : Edit) → is_some (message_of w.session commit) ≡ true → P w.session → At (resume drawn rest (after_answer w commit edit))
    answer-keeps w commit (Answer text) m h = short-keeps (is_short_text text) w commit text refl m h
    answer-keeps w commit (BrokenEdit fault) m h = h

    edit-keeps : (w : World) (commit : ℕ) (edits : List Reply) → is_some (message_of w.session commit) ≡ true → P w.session → At (resume drawn rest (after_edit w commit edits))
    edit-keeps w commit [] m h = answer-keeps (with_edits w []) commit no_messages_left m h
    edit-keeps w commit (reply ∷ edits) m h = answer-keeps (with_edits w edits) commit (reply (message_text w.session commit)) m h

    shot-keeps : (b : Bool) (w : World) (place : ℕ) (text : List ℕ) → P w.session → At (resume drawn rest (cond b (Goes (with_text w place text)) (Breaks no_such_place w)))
    shot-keeps true w place text h = h
    shot-keeps false w place text h = h

    outcome-keeps : (scene : Scene) (w : World) (flow : Flow) → Allows w.session flow → P w.session → At (resume drawn rest (outcome_by scene w flow))
    outcome-keeps scene w flows.GoOn k h = h
    outcome-keeps scene w flows.Accept k h = h
    outcome-keeps scene w flows.Cancel k h = h
    outcome-keeps scene w (flows.Edit commit) k h = edit-keeps w commit w.edits k h
    outcome-keeps scene w (flows.Shoot place) k h = shot-keeps (nat_lt place (length w.texts)) w place (shot_of scene w.session.cleared) h

  read-keeps : (w : World) (reads : List Read) → P w.session → At (next_read w reads)
  read-keeps w [] h = h
  read-keeps w (Batch list ∷ reads) h = h
  read-keeps w (BrokenRead fault ∷ reads) h = h

  batch-keeps : (w : World) (pending : List Event) → P w.session → At (batch w pending)
  batch-keeps w [] h = read-keeps w w.reads h
  batch-keeps w (event ∷ rest) h = kept.begun w.session h

  after-keeps : (p : Point) → At p → At (after p)
  after-keeps (Before w) h = kept.drawn w.session h
  after-keeps (Drawn w) h = batch-keeps w w.session.pending h
  after-keeps (Within drawn w []) h = h
  after-keeps (Within drawn w (event ∷ rest)) h =
      let scene = scene_of w.kind drawn in
      let c = change scene w.session event in
      outcome-keeps drawn rest scene (with_session w c.session) c.flow (marks-allow w.session c.session c.session.shown.state c.flow (leads scene w.session event).marks refl)
      (kept.changed scene w.session event h)
  after-keeps (Accepted w) h = h
  after-keeps (Failed fault w) h = h

  -- it stays true wherever steps lead
  pub reaches-keeps : {p q : Point} → Reaches p q → At p → At q
  reaches-keeps here h = h
  reaches-keeps (on {q = q} r) h = after-keeps q (reaches-keeps r h)
