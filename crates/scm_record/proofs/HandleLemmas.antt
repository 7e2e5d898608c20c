-- Events of a batch that a live session handles one after the other, up to the first after which it does not go on.
use Rattle.std.proofs.Common.{◌≡◌, ℕ, ◌+◌, ◌<◌, ◌≤◌, true, List, [], length, drop, get_or, Option, Some, None, sym, ap, ◌∙◌, refl, subst}
use Rattle.std.specs.Prelude.{is_some}
use Rattle.std.specs.Option.{unwrap_or}
use Rattle.std.proofs.lemmas.List.{drop_all, drop_more}
use Rattle.scm_input.specs.declared.events.Event.{Event}
use Rattle.scm_record.specs.declared.session.Flow.{Flow}
use Rattle.scm_record.specs.declared.session.Flow.TheVariants as flows
use Rattle.scm_record.specs.Session.{Session, IsDrawable, message_of, message_text}
use Rattle.scm_record.specs.declared.frame.DrawnFrame.{DrawnFrame}
use Rattle.scm_record.specs.Frames.{IsSceneOf, Scene, scene_of}
use Rattle.scm_record.specs.Change.{Change, stays}
use Rattle.scm_record.specs.Step.{change}
use Rattle.scm_record.specs.Run.{Setting, world_in, Within, after_change, resume, Reaches, here, on}
use Rattle.scm_record.specs.Batches.{HandlesBatch, point_by}
use Rattle.scm_record.proofs.AcceptedLemmas.{change-keeps-drawable}
use Rattle.scm_record.proofs.StepLemmas.{Allows, marks-allow, leads}

-- a session that an event leaves unchanged, where it is known what the event makes of it
pub changed-same : (scene : Scene) (s t : Session) (event : Event) (flow : Flow) → change scene s event ≡ stays s → change scene s event ≡ record { session = t; flow = flow } → t ≡ s
changed-same scene s t event flow kept is = ap (λ (c : Change). c.session) (sym is ∙ kept)

said-by : (message : Option (List ℕ)) → is_some message ≡ true → message ≡ Some (unwrap_or message [])
said-by None e = cc
said-by (Some text) e = refl

-- the commit whose message is to be edited has one
changed-said : (scene : Scene) (s t : Session) (event : Event) (flow : Flow) → change scene s event ≡ record { session = t; flow = flow } → (commit : ℕ) → flow ≡ flows.Edit commit → message_of t commit ≡ Some (message_text t commit)
changed-said scene s t event flow is commit e =
    let c = change scene s event in
    let allowed = marks-allow s c.session c.session.shown.state c.flow (leads scene s event).marks refl in
    let allows = subst (λ (c : Change). Allows c.session c.flow) is allowed in
    said-by (message_of t commit) (subst (λ (f : Flow). Allows t f) e allows)

-- the first `i` events lead from `s0` to `s`
pub record LeadsTo (IsSeen : Scene → Type 0) (list : List Event) (s0 s : Session) (i : ℕ) : Type 0 where
  pub steps : (a : Setting) (drawn : Session) (frames : ℕ) → IsSeen (scene_of a.kind drawn)
      → Reaches (Within drawn (world_in a s0 frames) list) (Within drawn (world_in a s frames) (drop i list))
  pub drawable : IsDrawable s0 → IsDrawable s

pub leads-none : (IsSeen : Scene → Type 0) (list : List Event) (s : Session) → LeadsTo IsSeen list s s 0
leads-none IsSeen list s = record { steps = λ a drawn frames h. here; drawable = λ h. h }

module _ (IsSeen : Scene → Type 0) (list : List Event) (s0 s t : Session) (i : ℕ) (d : Event) (flow : Flow) (is : i < length list) (before : LeadsTo IsSeen list s0 s i)
    (changes : (scene : Scene) → IsSeen scene → change scene s (get_or list i d) ≡ record { session = t; flow = flow }) where
  -- the next event
  handles-flow : (a : Setting) (drawn : Session) (frames : ℕ) → IsSeen (scene_of a.kind drawn)
      → Reaches (Within drawn (world_in a s0 frames) list) (point_by a drawn t frames flow (drop (i + 1) list))
  handles-flow a drawn frames h =
      let scene = scene_of a.kind drawn in
      let p = Within drawn (world_in a s0 frames) list in
      let next : Reaches p (resume drawn (drop (i + 1) list) (after_change scene (world_in a s frames) (change scene s (get_or list i d)))) =
      on (subst (λ (l : List Event). Reaches p (Within drawn (world_in a s frames) l)) (drop_more list i d is) (before.steps a drawn frames h)) in
      subst (λ (c : Change). Reaches p (resume drawn (drop (i + 1) list) (after_change scene (world_in a s frames) c))) (changes scene h) next

  now-drawable : ((scene : Scene) × IsSeen scene) → IsDrawable s0 → IsDrawable t
  now-drawable seen h = subst (λ (c : Change). IsDrawable c.session) (changes seen.0 seen.1) (change-keeps-drawable seen.0 s (get_or list i d) (before.drawable h))

  -- after which the session goes on
  pub handles-more : ((scene : Scene) × IsSeen scene) → flow ≡ flows.GoOn → LeadsTo IsSeen list s0 t (i + 1)
  handles-more seen e = record {
    steps = λ a drawn frames h.
        subst (λ (f : Flow). Reaches (Within drawn (world_in a s0 frames) list) (point_by a drawn t frames f (drop (i + 1) list))) e (handles-flow a drawn frames h);
    drawable = now-drawable seen;
  }

  -- or does not, and what is left of the batch is kept
  pub handles-last : (rest : List Event) → rest ≡ drop (i + 1) list → ((scene : Scene) × IsSeen scene) → (flow ≡ flows.GoOn → ⊥) → HandlesBatch IsSeen list s0 flow rest t
  handles-last rest left seen other = record {
    reached = λ a drawn frames h.
        subst (λ (l : List Event). Reaches (Within drawn (world_in a s0 frames) list) (point_by a drawn t frames flow l)) (sym left) (handles-flow a drawn frames h);
    all = λ e. absurd (other e);
    drawable = now-drawable seen;
    said = changed-said seen.0 s t (get_or list i d) flow (changes seen.0 seen.1);
  }

-- no event is left
pub handles-end : (IsSeen : Scene → Type 0) (list : List Event) (s0 s : Session) (i : ℕ) → length list ≤ i → LeadsTo IsSeen list s0 s i → HandlesBatch IsSeen list s0 flows.GoOn [] s
handles-end IsSeen list s0 s i end before = record {
  reached = λ a drawn frames h.
      subst (λ (l : List Event). Reaches (Within drawn (world_in a s0 frames) list) (Within drawn (world_in a s frames) l)) (drop_all i list end) (before.steps a drawn frames h);
  all = λ e. refl;
  drawable = before.drawable;
  said = λ commit g. cc;
}

-- a batch is handled as well on an equal frame, from an equal session
pub handles-same : (f g : DrawnFrame) (list : List Event) (s u : Session) (flow : Flow) (rest : List Event) (t : Session) → f ≡ g → s ≡ u
    → HandlesBatch (λ (scene : Scene). IsSceneOf scene f) list s flow rest t → HandlesBatch (λ (scene : Scene). IsSceneOf scene g) list u flow rest t
handles-same f g list s u flow rest t same_frame same handles =
    subst (λ (x : Session). HandlesBatch (λ (scene : Scene). IsSceneOf scene g) list x flow rest t) same
    (subst (λ (x : DrawnFrame). HandlesBatch (λ (scene : Scene). IsSceneOf scene x) list s flow rest t) same_frame handles)
