-- Points within a batch: how a batch begins, and whether the screen was cleared in it.
use Rattle.std.proofs.Common.{◌≡◌, ℕ, ◌||◌, Bool, true, false, List, [], ◌∷◌, ◌++◌, length, cond, sym, ap, ◌∙◌, refl, subst}
use Rattle.std.specs.Prelude.{is_some, nat_lt}
use Rattle.std.specs.List.{list_any}
use Rattle.scm_errors.specs.Fault.{Fault}
use Rattle.scm_types.specs.Limits.{is_short_text}
use Rattle.scm_input.specs.declared.events.Event.{Event}
use Rattle.scm_input.specs.declared.events.Event.TheVariants as events
use Rattle.scm_record.specs.declared.session.Flow.{Flow}
use Rattle.scm_record.specs.declared.session.Flow.TheVariants as flows
use Rattle.scm_input.specs.Script.{Read, Batch, BrokenRead, Edit, Answer, BrokenEdit, Reply, no_messages_left}
use Rattle.scm_record.specs.Session.{Session, with_help, message_text, with_message}
use Rattle.scm_record.specs.Frames.{Scene, scene_of}
use Rattle.scm_record.specs.FrameQueries.{shot_of}
use Rattle.scm_record.specs.Change.{stays, accepts}
use Rattle.scm_record.specs.Step.{change}
use Rattle.scm_record.specs.Run.{World, with_session, with_edits, with_text, Outcome, Goes, Ends, Breaks, no_such_place, too_long, after_answer, after_edit, outcome_by, step, Point, Before, Drawn, Within, Accepted, Failed, resume, next_read, batch, after, Reaches, here, on}
use Rattle.scm_record.specs.Headline.{is_redraw, Handling, begun, handled, BatchesAreHandled, BatchesBeginAsDrawn}
use Rattle.scm_record.proofs.CalmLemmas.{calm}

-- ---- batches

-- a point within a batch is one in which some events of it were handled
abbrev pub IsPlaced : Point → Point → Type 0
IsPlaced p (Before w) = Unit {0}
IsPlaced p (Drawn w) = Unit {0}
IsPlaced p (Within drawn w left) = (done : List Event) × Handling p drawn w done left
IsPlaced p (Accepted w) = Unit {0}
IsPlaced p (Failed fault w) = Unit {0}

module _ (p : Point) where
  batch-placed : (v : World) → Reaches p (Drawn v) → (q : Point) → batch v v.session.pending ≡ q → IsPlaced p q
  batch-placed v r (Before w) e = tt
  batch-placed v r (Drawn w) e = tt
  batch-placed v r (Within drawn w left) e = ([], begun r e)
  batch-placed v r (Accepted w) e = tt
  batch-placed v r (Failed fault w) e = tt

  step-placed : (drawn : Session) (w : World) (event : Event) (done left : List Event) → Handling p drawn w done (event ∷ left) → (o : Outcome) → step drawn w event ≡ o → IsPlaced p (resume drawn left o)
  step-placed drawn w event done left h (Goes v) e = (done ++ event ∷ [], handled h e)
  step-placed drawn w event done left h (Ends v) e = tt
  step-placed drawn w event done left h (Breaks fault v) e = tt

  after-placed : (q : Point) → Reaches p q → IsPlaced p q → IsPlaced p (after q)
  after-placed (Before w) r h = tt
  after-placed (Drawn v) r h = batch-placed v r (batch v v.session.pending) refl
  after-placed (Within drawn w []) r h = tt
  after-placed (Within drawn w (event ∷ left)) r h = step-placed drawn w event h.0 left h.1 (step drawn w event) refl
  after-placed (Accepted w) r h = tt
  after-placed (Failed fault w) r h = tt

  pub reaches-placed : {q : Point} → IsPlaced p p → Reaches p q → IsPlaced p q
  reaches-placed h here = h
  reaches-placed h (on {q = q} r) = after-placed q r (reaches-placed h r)

pub batches-are-handled : (w : World) → BatchesAreHandled (Before w)
batches-are-handled w drawn v left r = reaches-placed (Before w) tt r

-- ---- how a batch begins

-- the batch begins with what was drawn
record Begins (v : World) (drawn : Session) (w : World) : Type 0 where
  as_drawn : drawn ≡ v.session
  shown : w.session.shown ≡ v.session.shown
  scroll : w.session.scroll ≡ v.session.scroll
  cleared : w.session.cleared ≡ v.session.cleared

-- the same at a point
abbrev BeginsAt : World → Point → Type 0
BeginsAt v (Before w) = Unit {0}
BeginsAt v (Drawn w) = Unit {0}
BeginsAt v (Within drawn w left) = Begins v drawn w
BeginsAt v (Accepted w) = Unit {0}
BeginsAt v (Failed fault w) = Unit {0}

read-begins : (v : World) (reads : List Read) → BeginsAt v (next_read v reads)
read-begins v [] = tt
read-begins v (Batch list ∷ reads) = record { as_drawn = refl; shown = refl; scroll = refl; cleared = refl }
read-begins v (BrokenRead fault ∷ reads) = tt

batch-begins : (v : World) (pending : List Event) → BeginsAt v (batch v pending)
batch-begins v [] = read-begins v v.reads
batch-begins v (event ∷ rest) = record { as_drawn = refl; shown = refl; scroll = refl; cleared = refl }

begins : (v w : World) (drawn : Session) (left : List Event) → batch v v.session.pending ≡ Within drawn w left → Begins v drawn w
begins v w drawn left e = subst (λ (q : Point). BeginsAt v q) e (batch-begins v v.session.pending)

no-last : {A : Type 0} (x : A) (xs : List A) → xs ++ x ∷ [] ≡ [] → ⊥
no-last x [] e = cc
no-last x (y ∷ ys) e = cc

begins-as-drawn : (p : Point) {drawn : Session} {w : World} {done left : List Event} → Handling p drawn w done left → done ≡ [] → (w.session.shown ≡ drawn.shown) × (w.session.scroll ≡ drawn.scroll)
begins-as-drawn p (begun {v = v} {w = w} {drawn = drawn} {left = left} r e) none =
    let it = begins v w drawn left e in
    (it.shown ∙ sym (ap (λ (s : Session). s.shown) it.as_drawn), it.scroll ∙ sym (ap (λ (s : Session). s.scroll) it.as_drawn))
begins-as-drawn p (handled {event = event} {done = done} h e) none = absurd (no-last event done none)

pub batches-begin-as-drawn : (p : Point) → BatchesBeginAsDrawn p
batches-begin-as-drawn p drawn w left h = begins-as-drawn p h refl

-- ---- what clears the screen

-- a frame that was drawn isn't cleared
abbrev IsFresh : Point → Type 0
IsFresh (Before w) = Unit {0}
IsFresh (Drawn w) = w.session.cleared ≡ false
IsFresh (Within drawn w left) = Unit {0}
IsFresh (Accepted w) = Unit {0}
IsFresh (Failed fault w) = Unit {0}

read-fresh : (w : World) (reads : List Read) → IsFresh (next_read w reads)
read-fresh w [] = tt
read-fresh w (Batch list ∷ reads) = tt
read-fresh w (BrokenRead fault ∷ reads) = tt

batch-fresh : (w : World) (pending : List Event) → IsFresh (batch w pending)
batch-fresh w [] = read-fresh w w.reads
batch-fresh w (event ∷ rest) = tt

resume-fresh : (drawn : Session) (left : List Event) (o : Outcome) → IsFresh (resume drawn left o)
resume-fresh drawn left (Goes w) = tt
resume-fresh drawn left (Ends w) = tt
resume-fresh drawn left (Breaks fault w) = tt

after-fresh : (q : Point) → IsFresh (after q)
after-fresh (Before w) = refl
after-fresh (Drawn w) = batch-fresh w w.session.pending
after-fresh (Within drawn w []) = tt
after-fresh (Within drawn w (event ∷ left)) = resume-fresh drawn left (step drawn w event)
after-fresh (Accepted w) = tt
after-fresh (Failed fault w) = tt

reaches-fresh : (w : World) {q : Point} → Reaches (Before w) q → IsFresh q
reaches-fresh w here = tt
reaches-fresh w (on {q = q} r) = after-fresh q

abbrev pub world_of : Outcome → World
world_of (Goes w) = w
world_of (Ends w) = w
world_of (Breaks fault w) = w

either-cleared : (b : Bool) (v u : World) (fault : Fault) (cleared : Bool) → v.session.cleared ≡ cleared → u.session.cleared ≡ cleared → (world_of (cond b (Goes v) (Breaks fault u))).session.cleared ≡ cleared
either-cleared true v u fault cleared e f = e
either-cleared false v u fault cleared e f = f

answered-cleared : (w : World) (commit : ℕ) (edit : Edit) → (world_of (after_answer w commit edit)).session.cleared ≡ w.session.cleared
answered-cleared w commit (Answer text) = either-cleared (is_short_text text) (with_session w (with_message w.session commit text)) w too_long w.session.cleared refl refl
answered-cleared w commit (BrokenEdit fault) = refl

edited-cleared : (w : World) (commit : ℕ) (edits : List Reply) → (world_of (after_edit w commit edits)).session.cleared ≡ w.session.cleared
edited-cleared w commit [] = answered-cleared (with_edits w []) commit no_messages_left
edited-cleared w commit (reply ∷ edits) = answered-cleared (with_edits w edits) commit (reply (message_text w.session commit))

outcome-cleared : (scene : Scene) (w : World) (flow : Flow) → (world_of (outcome_by scene w flow)).session.cleared ≡ w.session.cleared
outcome-cleared scene w flows.GoOn = refl
outcome-cleared scene w flows.Accept = refl
outcome-cleared scene w flows.Cancel = refl
outcome-cleared scene w (flows.Edit commit) = edited-cleared w commit w.edits
outcome-cleared scene w (flows.Shoot place) = either-cleared (nat_lt place (length w.texts)) (with_text w place (shot_of scene w.session.cleared)) w no_such_place w.session.cleared refl refl

accept-cleared : (s : Session) (asked help : Bool) → (cond asked (stays s) (cond help (stays (with_help s false)) (accepts s))).session.cleared ≡ s.cleared
accept-cleared s true help = refl
accept-cleared s false true = refl
accept-cleared s false false = refl

-- the screen is cleared by a `Redraw`, and else as clear as it was
change-cleared : (scene : Scene) (s : Session) (event : Event) → (change scene s event).session.cleared ≡ (is_redraw event || s.cleared)
change-cleared scene s events.Redraw = refl
change-cleared scene s events.QuitAccept = accept-cleared s (is_some s.shown.quit_dialog) s.shown.is_help_open
change-cleared scene s events.None = (calm s scene events.None refl).cleared
change-cleared scene s events.QuitCancel = (calm s scene events.QuitCancel refl).cleared
change-cleared scene s events.QuitInterrupt = (calm s scene events.QuitInterrupt refl).cleared
change-cleared scene s events.QuitEscape = (calm s scene events.QuitEscape refl).cleared
change-cleared scene s (events.TakeScreenshot shot) = refl
change-cleared scene s events.EnsureSelectionInViewport = refl
change-cleared scene s events.ScrollUp = (calm s scene events.ScrollUp refl).cleared
change-cleared scene s events.ScrollDown = (calm s scene events.ScrollDown refl).cleared
change-cleared scene s events.PageUp = (calm s scene events.PageUp refl).cleared
change-cleared scene s events.PageDown = (calm s scene events.PageDown refl).cleared
change-cleared scene s events.FocusPrev = (calm s scene events.FocusPrev refl).cleared
change-cleared scene s events.FocusPrevSameKind = (calm s scene events.FocusPrevSameKind refl).cleared
change-cleared scene s events.FocusPrevPage = (calm s scene events.FocusPrevPage refl).cleared
change-cleared scene s events.FocusNext = (calm s scene events.FocusNext refl).cleared
change-cleared scene s events.FocusNextSameKind = (calm s scene events.FocusNextSameKind refl).cleared
change-cleared scene s events.FocusNextPage = (calm s scene events.FocusNextPage refl).cleared
change-cleared scene s events.FocusInner = (calm s scene events.FocusInner refl).cleared
change-cleared scene s (events.FocusOuter fold_section) = (calm s scene (events.FocusOuter fold_section) refl).cleared
change-cleared scene s events.ToggleItem = (calm s scene events.ToggleItem refl).cleared
change-cleared scene s events.ToggleItemAndAdvance = (calm s scene events.ToggleItemAndAdvance refl).cleared
change-cleared scene s events.ToggleAll = (calm s scene events.ToggleAll refl).cleared
change-cleared scene s events.ToggleAllUniform = (calm s scene events.ToggleAllUniform refl).cleared
change-cleared scene s events.ExpandItem = (calm s scene events.ExpandItem refl).cleared
change-cleared scene s events.ExpandAll = (calm s scene events.ExpandAll refl).cleared
change-cleared scene s (events.Click row column) = (calm s scene (events.Click row column) refl).cleared
change-cleared scene s events.ToggleCommitViewMode = refl
change-cleared scene s events.EditCommitMessage = (calm s scene events.EditCommitMessage refl).cleared
change-cleared scene s events.Help = refl

step-cleared : (drawn : Session) (w v : World) (event : Event) → step drawn w event ≡ Goes v → v.session.cleared ≡ (is_redraw event || w.session.cleared)
step-cleared drawn w v event e =
    let scene = scene_of w.kind drawn in
    let c = change scene w.session event in
    sym (ap (λ (o : Outcome). (world_of o).session.cleared) e) ∙ outcome-cleared scene (with_session w c.session) c.flow ∙ change-cleared scene w.session event

any-last : (events : List Event) (event : Event) → list_any is_redraw (events ++ event ∷ []) ≡ (is_redraw event || list_any is_redraw events)
any-last [] event = refl
any-last (first ∷ rest) event = ap (λ b. is_redraw first || b) (any-last rest event) ∙ or-turned (is_redraw first) (is_redraw event) (list_any is_redraw rest)
  where
    or-turned : (a b c : Bool) → (a || (b || c)) ≡ (b || (a || c))
    or-turned true true c = refl
    or-turned true false c = refl
    or-turned false b c = refl

-- the screen is cleared exactly after a `Redraw` in the batch
pub cleared-by-redraw : (w0 : World) {drawn : Session} {w : World} {done left : List Event} → Handling (Before w0) drawn w done left → w.session.cleared ≡ list_any is_redraw done
cleared-by-redraw w0 (begun {v = v} {w = w} {drawn = drawn} {left = left} r e) = (begins v w drawn left e).cleared ∙ reaches-fresh w0 r
cleared-by-redraw w0 (handled {v = v} {w = w} {drawn = drawn} {event = event} {done = done} h e) =
    step-cleared drawn w v event e ∙ ap (λ b. is_redraw event || b) (cleared-by-redraw w0 h) ∙ sym (any-last done event)

-- each point within a batch is reached
pub handling-reached : (p : Point) {drawn : Session} {w : World} {done left : List Event} → Handling p drawn w done left → Reaches p (Within drawn w left)
handling-reached p (begun r e) = subst (λ (q : Point). Reaches p q) e (on r)
handling-reached p (handled {drawn = drawn} {left = left} h e) = subst (λ (o : Outcome). Reaches p (resume drawn left o)) e (on (handling-reached p h))
