-- How many events of a batch are handled: the count grows by one with each event, up to the first after which the session does not go on.
use Rattle.std.proofs.Common.{◌≡◌, ℕ, ◌+◌, ◌<◌, ◌≤◌, true, false, List, length, drop, get_or, Result, Err, cond, ap, ◌∙◌, refl, subst, arith}
use Rattle.std.proofs.lemmas.List.{at_drop_all, at_drop_more}
use Rattle.scm_errors.specs.declared.error.RecordError.{RecordError}
use Rattle.scm_errors.specs.declared.error.RecordError.TheVariants.{OutOfMemory}
use Rattle.scm_types.specs.Limits.{is_short_text}
use Rattle.scm_input.specs.declared.events.Event.{Event}
use Rattle.scm_record.specs.declared.live.Turn.{Turn}
use Rattle.scm_record.specs.declared.frame.DrawnFrame.{DrawnFrame}
use Rattle.scm_record.specs.declared.session.Flow.{Flow}
use Rattle.scm_record.specs.declared.session.Flow.TheVariants as flows
use Rattle.scm_record.specs.Session.{Session, with_message}
use Rattle.scm_record.specs.Frames.{IsSceneOf, Scene}
use Rattle.scm_record.specs.Live.{LiveEdit}
use Rattle.scm_record.specs.Change.{Change}
use Rattle.scm_record.specs.Step.{change}
use Rattle.scm_record.specs.HandledCount.{Counts, handled_count, later_count, lost, rest_count}

-- ---- numbers

one-more : (whole i later : ℕ) → whole ≡ i + (1 + later) → whole ≡ i + 1 + later
one-more whole i later e = omega (arith, e)

none-more : (whole i : ℕ) → whole ≡ i + (1 + 0) → i + 1 ≡ whole
none-more whole i e = omega (arith, e)

all-before : (whole size i : ℕ) → whole ≡ i + 0 → size ≤ i → i ≤ size → size ≡ whole
all-before whole size i e low high = omega (arith, e, low, high)

-- ---- events

-- the first `i` events are handled, and lead from `s0` to `s`
pub record CountsTo (IsSeen : Scene → Type 0) (list : List Event) (s0 s : Session) (i : ℕ) : Type 0 where
  pub within : i ≤ length list
  pub count : (scene : Scene) → IsSeen scene → handled_count scene s0 list ≡ i + handled_count scene s (drop i list)

pub counts-none : (IsSeen : Scene → Type 0) (list : List Event) (s : Session) → CountsTo IsSeen list s s 0
counts-none IsSeen list s = record { within = omega arith; count = λ scene h. none-before (handled_count scene s list) }
  where
    none-before : (n : ℕ) → n ≡ 0 + n
    none-before n = omega arith

-- of the events behind one that asks for another flow none is handled
none-later : (flow : Flow) (later : ℕ) → (flow ≡ flows.GoOn → ⊥) → later_count flow later ≡ 0
none-later flows.GoOn later other = absurd (other refl)
none-later flows.Accept later other = refl
none-later flows.Cancel later other = refl
none-later (flows.Edit commit) later other = refl
none-later (flows.Shoot place) later other = refl

module _ (IsSeen : Scene → Type 0) (list : List Event) (s0 s t : Session) (i : ℕ) (d : Event) (flow : Flow) (is : i < length list) (before : CountsTo IsSeen list s0 s i)
    (changes : (scene : Scene) → IsSeen scene → change scene s (get_or list i d) ≡ record { session = t; flow = flow }) where
  -- the next event
  next-count : (scene : Scene) → IsSeen scene → handled_count scene s0 list ≡ i + (1 + later_count flow (handled_count scene t (drop (i + 1) list)))
  next-count scene h =
      let rest = drop (i + 1) list in
      before.count scene h
      ∙ ap (λ (n : ℕ). i + n) (at_drop_more (λ (l : List Event). handled_count scene s l) list i d is
      ∙ ap (λ (c : Change). 1 + later_count c.flow (handled_count scene c.session rest)) (changes scene h))

  -- after which the session goes on
  pub counts-more : flow ≡ flows.GoOn → CountsTo IsSeen list s0 t (i + 1)
  counts-more e = record {
    within = omega (arith, is);
    count = λ scene h.
        let rest = handled_count scene t (drop (i + 1) list) in
        one-more (handled_count scene s0 list) i rest (next-count scene h ∙ ap (λ (f : Flow). i + (1 + later_count f rest)) e);
  }

  -- or does not
  pub counts-last : (flow ≡ flows.GoOn → ⊥) → (scene : Scene) → IsSeen scene → i + 1 ≡ handled_count scene s0 list
  counts-last other scene h =
      let rest = handled_count scene t (drop (i + 1) list) in
      none-more (handled_count scene s0 list) i (next-count scene h ∙ ap (λ (n : ℕ). i + (1 + n)) (none-later flow rest other))

-- no event is left
pub counts-all : (IsSeen : Scene → Type 0) (list : List Event) (s0 s : Session) (i : ℕ) → length list ≤ i → CountsTo IsSeen list s0 s i
    → (scene : Scene) → IsSeen scene → length list ≡ handled_count scene s0 list
counts-all IsSeen list s0 s i end before scene h =
    let whole = before.count scene h ∙ ap (λ (n : ℕ). i + n) (at_drop_all (λ (l : List Event). handled_count scene s l) list i end) in
    all-before (handled_count scene s0 list) (length list) i whole end before.within

-- ---- calls

-- one for which an allocation failed tells nothing
pub counts-lost : (IsCount : ℕ → Type 0) (result : Result Turn RecordError) (error : RecordError) (told : ℕ) → result ≡ Err error → error ≡ OutOfMemory → told ≡ 0 → Counts IsCount result told
counts-lost IsCount result error told e f g = rw e (rw f (rw g lost))

-- the count on an equal frame, from an equal session and of an equal list
pub count-same : (f g : DrawnFrame) (list other : List Event) (s u : Session) (told : ℕ) → f ≡ g → s ≡ u → list ≡ other
    → ((scene : Scene) → IsSceneOf scene f → told ≡ handled_count scene s list) → (scene : Scene) → IsSceneOf scene g → told ≡ handled_count scene u other
count-same f g list other s u told same_frame same same_list is =
    subst (λ (l : List Event). (scene : Scene) → IsSceneOf scene g → told ≡ handled_count scene u l) same_list
    (subst (λ (x : Session). (scene : Scene) → IsSceneOf scene g → told ≡ handled_count scene x list) same
    (subst (λ (x : DrawnFrame). (scene : Scene) → IsSceneOf scene x → told ≡ handled_count scene s list) same_frame is))

-- after a message that is short enough the rest of the batch is handled
pub rest-after : (scene : Scene) (a : LiveEdit) (text : List ℕ) (told : ℕ) → true ≡ is_short_text text
    → told ≡ handled_count scene (with_message a.session a.commit text) a.rest → told ≡ rest_count scene a text
rest-after scene a text told short is =
    is ∙ ap (λ b. cond b (handled_count scene (with_message a.session a.commit text) a.rest) 0) short

-- after one that is too long none of it is
pub rest-refused : (scene : Scene) (a : LiveEdit) (text : List ℕ) → false ≡ is_short_text text → 0 ≡ rest_count scene a text
rest-refused scene a text long = ap (λ b. cond b (handled_count scene (with_message a.session a.commit text) a.rest) 0) long
