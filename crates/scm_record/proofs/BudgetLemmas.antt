-- A run draws few frames.
use Rattle.std.proofs.Common.{◌≡◌, ℕ, zero, suc, ◌+◌, ◌-◌, ◌*◌, ◌<◌, ◌≤◌, Bool, true, false, List, [], ◌∷◌, ◌++◌, length, Option, Some, None, cond, sym, ap, refl, ◌∙◌, add-one, arith}
use Rattle.std.specs.Prelude.{MatchOption, nat_lt}
use Rattle.scm_errors.specs.Fault.{Fault, fault_of}
use Rattle.scm_errors.specs.declared.error.RecordError.{RecordError}
use Rattle.scm_types.specs.Limits.{is_short_text}
use Rattle.scm_input.specs.declared.events.Event.{Event}
use Rattle.scm_input.specs.declared.events.Event.TheVariants as events
use Rattle.scm_record.specs.declared.session.Flow.{Flow}
use Rattle.scm_record.specs.declared.session.Flow.TheVariants as flows
use Rattle.scm_input.specs.Script.{Read, Batch, BrokenRead, Edit, Answer, BrokenEdit, Reply, no_messages_left}
use Rattle.scm_input.specs.Store.{count_up, counted}
use Rattle.scm_record.specs.Session.{Session, message_text, with_message}
use Rattle.scm_record.specs.Frames.{Scene, scene_of}
use Rattle.scm_record.specs.FrameQueries.{shot_of}
use Rattle.scm_record.specs.Step.{change}
use Rattle.scm_record.specs.Run.{World, with_session, with_edits, with_text, Point, Before, Drawn, Within, Accepted, Failed, Goes, Breaks, no_such_place, too_long, after_answer, after_edit, outcome_by, step, resume, next_read, batch, after, Reaches, here, on, world_at, IsSameButSession, Stops}
use Rattle.scm_record.specs.Ending.{IsFew}
use Rattle.scm_record.proofs.Budget.{rank, rank_of, turns_of, turns_left, Fits}
use Rattle.scm_record.proofs.StepLemmas.{Pushes, nothing, pushed, leads}

-- an event of lower rank is pushed
rank_of-push : (pending : List Event) (event : Event) (r : ℕ) → rank_of pending ≤ r → rank event + 1 ≤ r → rank_of (pending ++ event ∷ []) ≤ r
rank_of-push [] event r h k = omega (arith, k)
rank_of-push (first ∷ rest) event r h k = omega (arith, rank_of-push rest event r (omega arith) k)

-- what an event leaves pending
pushes-quiet : (r : ℕ) (event : Event) (old new : List Event) → Pushes event old new → rank_of old ≤ r → rank event ≤ r → rank_of new ≤ r
pushes-quiet r event old _ nothing h k = h
pushes-quiet r event old _ (pushed next below) h k = rank_of-push old next r h (omega (arith, below, k))

module _ (b r : ℕ) (drawn : Session) (rest : List Event) (left : rank_of rest ≤ r + 1) where
  short-fits : (is_short : Bool) (w v : World) → w.frames + 3 * length w.reads + r ≤ b → rank_of w.session.pending ≤ r → v.frames ≡ w.frames → v.reads ≡ w.reads → v.session.pending ≡ w.session.pending → Fits b (resume drawn rest (cond is_short (Goes v) (Breaks too_long w)))
  short-fits true w v fits h e f g = (r, left, rw g h, rw (e, f) fits)
  short-fits false w v fits h e f g = omega arith

  answered-fits : (w : World) (commit : ℕ) (edit : Edit) → w.frames + 3 * length w.reads + r ≤ b → rank_of w.session.pending ≤ r → Fits b (resume drawn rest (after_answer w commit edit))
  answered-fits w commit (Answer text) fits h = short-fits (is_short_text text) w (with_session w (with_message w.session commit text)) fits h refl refl refl
  answered-fits w commit (BrokenEdit fault) fits h = omega arith

  edited-fits : (w : World) (commit : ℕ) (edits : List Reply) → w.frames + 3 * length w.reads + r ≤ b → rank_of w.session.pending ≤ r → Fits b (resume drawn rest (after_edit w commit edits))
  edited-fits w commit [] fits h = answered-fits (with_edits w []) commit no_messages_left fits h
  edited-fits w commit (reply ∷ edits) fits h = answered-fits (with_edits w edits) commit (reply (message_text w.session commit)) fits h

module _ (b r : ℕ) (drawn : Session) (rest : List Event) (left : rank_of rest ≤ r + 1) where
  kept-fits : (has : Bool) (w v : World) → w.frames + 3 * length w.reads + r ≤ b → rank_of w.session.pending ≤ r → v.frames ≡ w.frames → v.reads ≡ w.reads → v.session.pending ≡ w.session.pending → Fits b (resume drawn rest (cond has (Goes v) (Breaks no_such_place w)))
  kept-fits true w v fits h e f g = (r, left, rw g h, rw (e, f) fits)
  kept-fits false w v fits h e f g = omega arith

  outcome-fits : (scene : Scene) (w : World) (flow : Flow) → w.frames + 3 * length w.reads + r ≤ b → rank_of w.session.pending ≤ r → Fits b (resume drawn rest (outcome_by scene w flow))
  outcome-fits scene w flows.GoOn fits h = (r, left, h, fits)
  outcome-fits scene w flows.Accept fits h = omega arith
  outcome-fits scene w flows.Cancel fits h = omega arith
  outcome-fits scene w (flows.Edit commit) fits h = edited-fits b r drawn rest left w commit w.edits fits h
  outcome-fits scene w (flows.Shoot place) fits h = kept-fits (nat_lt place (length w.texts)) w (with_text w place (shot_of scene w.session.cleared)) fits h refl refl refl

  step-fits : (w : World) (event : Event) → w.frames + 3 * length w.reads + r ≤ b → rank_of w.session.pending ≤ r → rank event ≤ r → Fits b (resume drawn rest (step drawn w event))
  step-fits w event fits quiet k =
      let scene = scene_of w.kind drawn in
      let c = change scene w.session event in
      outcome-fits scene (with_session w c.session) c.flow fits (pushes-quiet r event w.session.pending c.session.pending (leads scene w.session event).pushes quiet k)

-- events cause a turn
pub rank_of-some : (list : List Event) → 0 < length list → 1 ≤ rank_of list
rank_of-some [] k = omega arith
rank_of-some (event ∷ rest) k = omega arith

-- a live session that goes on takes fewer turns, and one that does not takes none
pub turns-fall : (flow : Flow) (pending : List Event) (n : ℕ) → (flow ≡ flows.GoOn → rank_of pending < n) → turns_of flow pending < n + 1
turns-fall flows.GoOn pending n h = let below = h refl in omega (arith, below)
turns-fall flows.Accept pending n h = omega arith
turns-fall flows.Cancel pending n h = omega arith
turns-fall (flows.Edit commit) pending n h = omega arith
turns-fall (flows.Shoot place) pending n h = omega arith

rank-le : (event : Event) → rank event ≤ 2
rank-le events.None = omega arith
rank-le _ = omega arith

rank_of-le : (list : List Event) → rank_of list ≤ 3
rank_of-le [] = omega arith
rank_of-le (event ∷ rest) = omega (arith, rank-le event, rank_of-le rest)

read-fits : (b : ℕ) (w : World) (reads : List Read) → w.reads ≡ reads → w.session.pending ≡ [] → w.frames + 3 * length reads ≤ b + 1 → Fits b (next_read w reads)
read-fits b w [] r e h = rw r h
read-fits b w (Batch list ∷ reads) r e h = (2, rank_of-le list, rw e (omega arith), omega arith)
read-fits b w (BrokenRead fault ∷ reads) r e h = omega arith

batch-fits : (b : ℕ) (w : World) (pending : List Event) → w.session.pending ≡ pending → w.frames + 3 * length w.reads + rank_of pending ≤ b + 1 → Fits b (batch w pending)
batch-fits b w [] e h = read-fits b w w.reads refl e (omega arith)
batch-fits b w (event ∷ rest) e h = (rank_of (event ∷ rest) - 1, omega arith, omega arith, omega arith)

after-fits : (b : ℕ) (p : Point) → Fits b p → Fits b (after p)
after-fits b (Before w) h = omega arith
after-fits b (Drawn w) h = batch-fits b w w.session.pending refl (omega arith)
after-fits b (Within drawn w []) h = omega (arith, h.1, h.2, h.3)
after-fits b (Within drawn w (event ∷ rest)) h = step-fits b h.0 drawn rest (omega (arith, h.1)) w event h.3 h.2 (omega (arith, h.1))
after-fits b (Accepted w) h = h
after-fits b (Failed fault w) h = h

-- what is reached fits what is left at the beginning
pub reaches-fits : (b : ℕ) (p : Point) {q : Point} → Reaches p q → Fits b p → Fits b q
reaches-fits b p here h = h
reaches-fits b p (on r) h = after-fits b _ (reaches-fits b p r h)

-- a turn that goes on has one turn less to go
pub turn-falls : (w w' : World) → w.frames ≡ 0 → w'.frames ≡ 1 → Reaches (Before w) (Before w') → turns_left w' < turns_left w
turn-falls w w' e f r = omega (arith, reaches-fits (turns_left w) (Before w) r (omega arith))

fits-few : (b : ℕ) (q : Point) → Fits b q → (world_at q).frames + 3 * length (world_at q).reads ≤ b + 1
fits-few b (Before w) h = omega arith
fits-few b (Drawn w) h = omega arith
fits-few b (Within drawn w rest) h = omega (arith, h.3)
fits-few b (Accepted w) h = omega arith
fits-few b (Failed fault w) h = h

-- few frames were drawn at any point that is reached
pub few-reached : (w : World) (q : Point) → w.frames ≡ 0 → w.session.pending ≡ [] → Reaches (Before w) q → IsFew (world_at q).frames w.reads (world_at q).reads
few-reached w q e f r =
    let none : rank_of w.session.pending ≡ 0 = ap rank_of f in
    let fits : w.frames + turns_left w ≤ turns_left w = omega arith in
    let few = fits-few (turns_left w) q (reaches-fits (turns_left w) (Before w) r fits) in
    omega arith

few-stopped-by : (f : Option Fault) (w v : World) → w.frames ≡ 0 → w.session.pending ≡ [] → MatchOption f ((q : Point) × Reaches (Before w) q × IsSameButSession v (world_at q)) (λ fault. Reaches (Before w) (Failed fault v)) → IsFew v.frames w.reads v.reads
few-stopped-by None w v e p h = rw (h.2.frames, h.2.reads) (few-reached w h.0 e p h.1)
few-stopped-by (Some fault) w v e p h = few-reached w (Failed fault v) e p h

-- and where a run stops
pub few-stopped : (error : RecordError) (w v : World) → w.frames ≡ 0 → w.session.pending ≡ [] → Stops error (Before w) v → IsFew v.frames w.reads v.reads
few-stopped error w v e p h = few-stopped-by (fault_of error) w v e p h

pub counted-more : (n first old new : ℕ) → old ≡ counted n first → new ≡ count_up old → new ≡ counted (n + 1) first
counted-more n first old new e h = h ∙ ap count_up e ∙ ap (λ (k : ℕ). counted k first) (sym (add-one n))

suc-plus : (m n : ℕ) → suc (m + n) ≡ suc m + n
suc-plus m n = omega arith

zero-plus : (n : ℕ) → n ≡ 0 + n
zero-plus n = omega arith

plus-turned : (m n : ℕ) → m + n ≡ n + m
plus-turned m n = omega arith

counted-sum : (m n first : ℕ) → counted m (counted n first) ≡ counted (m + n) first
counted-sum zero n first = ap (λ (k : ℕ). counted k first) (zero-plus n)
counted-sum (suc m) n first = ap count_up (counted-sum m n first) ∙ ap (λ (k : ℕ). counted k first) (suc-plus m n)

-- a count that was raised further
pub counted-on : (n m first old new : ℕ) → old ≡ counted n first → new ≡ counted m old → new ≡ counted (n + m) first
counted-on n m first old new e h = h ∙ ap (counted m) e ∙ counted-sum m n first ∙ ap (λ (k : ℕ). counted k first) (plus-turned m n)
