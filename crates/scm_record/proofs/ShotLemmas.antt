-- What a run shows on plain frames: screenshots are windows, clicks act on the owners of their places, and the store has screenshots alone.
use Rattle.std.proofs.Common.{◌≡◌, ℕ, zero, suc, ◌+◌, ◌<◌, ◌≤◌, Bool, true, false, List, [], ◌∷◌, length, ◌&&◌, Option, Some, None, cond, ◌⊎◌, inl, inr, sym, ap, ◌∙◌, refl, subst}
use Rattle.std.specs.Prelude.{MatchOption, is_some, nat_le, nat_lt, slice_get}
use Rattle.std.proofs.lemmas.Bool.{lt-ltb, le-leb}
use Rattle.std.proofs.lemmas.Option.{same_Some}
use Rattle.scm_errors.specs.declared.error.RecordError.{RecordError}
use Rattle.scm_errors.specs.Fault.{Fault, fault_of}
use Rattle.scm_types.specs.Edits.{modify}
use Rattle.scm_types.specs.Limits.{is_short_text, max_scroll}
use Rattle.scm_cells.specs.Screen.{view_of}
use Rattle.scm_render.specs.Canvas.{Row}
use Rattle.scm_widgets.specs.declared.ids.ComponentId.{ComponentId}
use Rattle.scm_input.specs.declared.events.Event.{Event}
use Rattle.scm_input.specs.declared.events.Event.TheVariants as events
use Rattle.scm_input.specs.declared.events.TestingScreenshot.{TestingScreenshot}
use Rattle.scm_input.specs.declared.inputs.TerminalKind.{TerminalKind}
use Rattle.scm_record.specs.declared.session.Flow.{Flow}
use Rattle.scm_record.specs.declared.session.Flow.TheVariants as flows
use Rattle.scm_input.specs.Script.{Read, Batch, BrokenRead, Edit, Answer, BrokenEdit, Reply, no_messages_left}
use Rattle.scm_record.specs.Session.{Session, IsDrawable, with_help, message_text, with_message}
use Rattle.scm_view.specs.Frame.{Frame, frame_of_document}
use Rattle.scm_record.specs.Frames.{Scene, columns_of, rows_of, scene_of}
use Rattle.scm_record.specs.FrameQueries.{hit, shot_of}
use Rattle.scm_record.specs.Clicks.{after_click}
use Rattle.scm_record.specs.Change.{stays, accepts}
use Rattle.scm_record.specs.Step.{change}
use Rattle.scm_record.specs.Run.{Setting, World, world_in, with_session, with_edits, with_text, Goes, Breaks, no_such_place, too_long, after_answer, after_edit, outcome_by, after_change, step, Point, Before, Drawn, Within, Accepted, Failed, after_screenshot, resume, next_read, batch, after, Reaches, here, on, world_at, IsSameButSession, Stops}
use Rattle.scm_record.specs.Headline.{IsInline, window_text, blank_text, shot_text, IsShot, StoreHasShots, Handling, ShotsAreWindows, ClicksHitOwners}
use Rattle.scm_record.proofs.FrameLemmas.{plain-frame}
use Rattle.scm_record.proofs.DrawableLemmas.{reaches-drawable}
use Rattle.scm_record.proofs.CalmLemmas.{is_calm, is_lively, calm}
use Rattle.scm_record.proofs.BatchLemmas.{IsPlaced, reaches-placed, cleared-by-redraw, handling-reached}

-- ---- screenshots and clicks, in plain frames

-- a plain frame is that of its document
pub frame-plain : (kind : TerminalKind) (drawn : Session) → IsInline kind drawn → (scene_of kind drawn).frame ≡ frame_of_document (columns_of kind) (rows_of kind) drawn.scroll drawn.shown
frame-plain kind drawn h = plain-frame (columns_of kind) (rows_of kind) drawn h.view_mode h.wide h.high

inline-shot : (kind : TerminalKind) (drawn : Session) → IsInline kind drawn → (cleared : Bool) → shot_of (scene_of kind drawn) cleared ≡ cond cleared (blank_text kind) (window_text kind drawn)
inline-shot kind drawn h true = refl
inline-shot kind drawn h false = ap (λ (rows : List Row). view_of rows) (ap (λ (f : Frame). f.rows) (frame-plain kind drawn h))

-- the text of an inline screenshot
pub inline-text : (w0 : World) {drawn : Session} {w : World} {done left : List Event} → Handling (Before w0) drawn w done left → IsInline w.kind drawn → shot_of (scene_of w.kind drawn) w.session.cleared ≡ shot_text w.kind drawn done
inline-text w0 {drawn} {w} h plain =
    inline-shot w.kind drawn plain w.session.cleared
    ∙ ap (λ (b : Bool). cond b (blank_text w.kind) (window_text w.kind drawn)) (cleared-by-redraw w0 h)

pub shots-are-windows : (w0 : World) → ShotsAreWindows (Before w0)
shots-are-windows w0 drawn w done left shot h plain = ap (after_screenshot w shot.place) (inline-text w0 h plain)

-- on the screen, and scrolled no further than a session is, a click hits the owner
pub hit-on_screen : (scene : Scene) (s row column : ℕ) → row < scene.height → column < scene.width → s ≤ max_scroll → hit scene s row column ≡ scene.frame.owner (s + row) column
hit-on_screen scene s row column is_row is_column is_low =
    let o = scene.frame.owner (s + row) column in
    ap (λ (b : Bool). cond ((b && nat_lt row scene.height) && nat_le s max_scroll) o None) (lt-ltb column scene.width is_column)
    ∙ ap (λ (b : Bool). cond (b && nat_le s max_scroll) o None) (lt-ltb row scene.height is_row)
    ∙ ap (λ (b : Bool). cond b o None) (le-leb s max_scroll is_low)

pub clicks-hit-owners : (w0 : World) → IsDrawable w0.session → ClicksHitOwners (Before w0)
clicks-hit-owners w0 drawable drawn w done left row column h plain is_row is_column =
    let low = (reaches-drawable (handling-reached (Before w0) h) drawable).scroll in
    ap (λ (o : Option ComponentId). after_change (scene_of w.kind drawn) w (after_click drawn.shown.open_menu w.session o))
    (hit-on_screen (scene_of w.kind drawn) w.session.scroll row column is_row is_column low
    ∙ ap (λ (f : Frame). f.owner (w.session.scroll + row) column) (frame-plain w.kind drawn plain))

-- ---- the store

abbrev Texts : Type 0
Texts = List (Option (List ℕ))

-- what is at an index of a list in which one index was set
set-or-had : {A : Type 0} (x y : A) (xs : List A) (i j : ℕ) → slice_get (modify (λ _. x) xs i) j ≡ Some y → (slice_get xs j ≡ Some y) ⊎ ((i ≡ j) × (x ≡ y))
set-or-had x y [] i j e = inl e
set-or-had x y (z ∷ zs) zero zero e = inr (refl, same_Some x y e)
set-or-had x y (z ∷ zs) zero (suc j) e = inl e
set-or-had x y (z ∷ zs) (suc i) zero e = inl e
set-or-had x y (z ∷ zs) (suc i) (suc j) e = elim (set-or-had x y zs i j e) [
  | inl h ↦ inl h
  | inr h ↦ inr (ap suc h.0, h.1)
]

module _ (w0 : World) where
  -- each text is one that was there, or that of a screenshot
  HasShots : Texts → Type 0
  HasShots texts = (place : ℕ) (text : List ℕ) → slice_get texts place ≡ Some (Some text) → (slice_get w0.texts place ≡ Some (Some text)) ⊎ IsShot (Before w0) place text

  module _ {drawn : Session} {w : World} {done left : List Event} (shot : TestingScreenshot) (h : Handling (Before w0) drawn w done (events.TakeScreenshot shot ∷ left)) where
    shot-kept : HasShots w.texts → HasShots (modify (λ _. Some (shot_of (scene_of w.kind drawn) w.session.cleared)) w.texts shot.place)
    unfolding HasShots
    shot-kept had place text e = elim (set-or-had (Some (shot_of (scene_of w.kind drawn) w.session.cleared)) (Some text) w.texts shot.place place e) [
      | inl k ↦ had place text k
      | inr k ↦ inr (record {
        drawn = drawn;
        world = w;
        done = done;
        left = left;
        shot = shot;
        taken = h;
        at_place = k.0;
        of_scene = sym (same_Some _ text k.1);
        inline = λ plain. sym (same_Some _ text k.1) ∙ inline-text w0 h plain;
      })
    ]

    shot-has : (b : Bool) → HasShots w.texts → HasShots (world_at (resume drawn left (cond b (Goes (with_text w shot.place (shot_of (scene_of w.kind drawn) w.session.cleared))) (Breaks no_such_place w)))).texts
    shot-has true had = shot-kept had
    shot-has false had = had

short-texts : (drawn : Session) (left : List Event) (b : Bool) (v u : World) (texts : Texts) → v.texts ≡ texts → u.texts ≡ texts → (world_at (resume drawn left (cond b (Goes v) (Breaks too_long u)))).texts ≡ texts
short-texts drawn left true v u texts e f = e
short-texts drawn left false v u texts e f = f

answered-texts : (drawn : Session) (left : List Event) (w : World) (commit : ℕ) (edit : Edit) → (world_at (resume drawn left (after_answer w commit edit))).texts ≡ w.texts
answered-texts drawn left w commit (Answer text) = short-texts drawn left (is_short_text text) (with_session w (with_message w.session commit text)) w w.texts refl refl
answered-texts drawn left w commit (BrokenEdit fault) = refl

edited-texts : (drawn : Session) (left : List Event) (w : World) (commit : ℕ) (edits : List Reply) → (world_at (resume drawn left (after_edit w commit edits))).texts ≡ w.texts
edited-texts drawn left w commit [] = answered-texts drawn left (with_edits w []) commit no_messages_left
edited-texts drawn left w commit (reply ∷ edits) = answered-texts drawn left (with_edits w edits) commit (reply (message_text w.session commit))

calm-texts : (drawn : Session) (left : List Event) (scene : Scene) (w : World) (flow : Flow) → is_calm flow ≡ true → (world_at (resume drawn left (outcome_by scene w flow))).texts ≡ w.texts
calm-texts drawn left scene w flows.GoOn e = refl
calm-texts drawn left scene w flows.Accept e = cc
calm-texts drawn left scene w flows.Cancel e = refl
calm-texts drawn left scene w (flows.Edit commit) e = edited-texts drawn left w commit w.edits
calm-texts drawn left scene w (flows.Shoot place) e = cc

other-texts : (drawn : Session) (left : List Event) (w : World) (event : Event) → is_lively event ≡ false → (world_at (resume drawn left (step drawn w event))).texts ≡ w.texts
other-texts drawn left w event e =
    let scene = scene_of w.kind drawn in
    let c = change scene w.session event in
    calm-texts drawn left scene (with_session w c.session) c.flow (calm w.session scene event e).flow

accept-texts : (drawn : Session) (left : List Event) (scene : Scene) (w : World) (asked help : Bool) → (world_at (resume drawn left (after_change scene w (cond asked (stays w.session) (cond help (stays (with_help w.session false)) (accepts w.session)))))).texts ≡ w.texts
accept-texts drawn left scene w true help = refl
accept-texts drawn left scene w false true = refl
accept-texts drawn left scene w false false = refl

read-texts : (w : World) (reads : List Read) → (world_at (next_read w reads)).texts ≡ w.texts
read-texts w [] = refl
read-texts w (Batch list ∷ reads) = refl
read-texts w (BrokenRead fault ∷ reads) = refl

batch-texts : (w : World) (pending : List Event) → (world_at (batch w pending)).texts ≡ w.texts
batch-texts w [] = read-texts w w.reads
batch-texts w (event ∷ rest) = refl

-- ---- events other than a screenshot

same-has : (w0 : World) (old new : Texts) → new ≡ old → HasShots w0 old → HasShots w0 new
same-has w0 old new e had = subst (λ (x : Texts). HasShots w0 x) (sym e) had

module _ (w0 : World) {drawn : Session} {w : World} {done left : List Event} where
  step-has : (event : Event) → Handling (Before w0) drawn w done (event ∷ left) → HasShots w0 w.texts → HasShots w0 (world_at (resume drawn left (step drawn w event))).texts
  step-has (events.TakeScreenshot shot) h had = shot-has w0 shot h (nat_lt shot.place (length w.texts)) had
  step-has events.QuitAccept h had = same-has w0 _ _ (accept-texts drawn left (scene_of w.kind drawn) w (is_some w.session.shown.quit_dialog) w.session.shown.is_help_open) had
  step-has events.Redraw h had = had
  step-has events.None h had = same-has w0 _ _ (other-texts drawn left w events.None refl) had
  step-has events.QuitCancel h had = same-has w0 _ _ (other-texts drawn left w events.QuitCancel refl) had
  step-has events.QuitInterrupt h had = same-has w0 _ _ (other-texts drawn left w events.QuitInterrupt refl) had
  step-has events.QuitEscape h had = same-has w0 _ _ (other-texts drawn left w events.QuitEscape refl) had
  step-has events.EnsureSelectionInViewport h had = same-has w0 _ _ (other-texts drawn left w events.EnsureSelectionInViewport refl) had
  step-has events.ScrollUp h had = same-has w0 _ _ (other-texts drawn left w events.ScrollUp refl) had
  step-has events.ScrollDown h had = same-has w0 _ _ (other-texts drawn left w events.ScrollDown refl) had
  step-has events.PageUp h had = same-has w0 _ _ (other-texts drawn left w events.PageUp refl) had
  step-has events.PageDown h had = same-has w0 _ _ (other-texts drawn left w events.PageDown refl) had
  step-has events.FocusPrev h had = same-has w0 _ _ (other-texts drawn left w events.FocusPrev refl) had
  step-has events.FocusPrevSameKind h had = same-has w0 _ _ (other-texts drawn left w events.FocusPrevSameKind refl) had
  step-has events.FocusPrevPage h had = same-has w0 _ _ (other-texts drawn left w events.FocusPrevPage refl) had
  step-has events.FocusNext h had = same-has w0 _ _ (other-texts drawn left w events.FocusNext refl) had
  step-has events.FocusNextSameKind h had = same-has w0 _ _ (other-texts drawn left w events.FocusNextSameKind refl) had
  step-has events.FocusNextPage h had = same-has w0 _ _ (other-texts drawn left w events.FocusNextPage refl) had
  step-has events.FocusInner h had = same-has w0 _ _ (other-texts drawn left w events.FocusInner refl) had
  step-has (events.FocusOuter fold_section) h had = same-has w0 _ _ (other-texts drawn left w (events.FocusOuter fold_section) refl) had
  step-has events.ToggleItem h had = same-has w0 _ _ (other-texts drawn left w events.ToggleItem refl) had
  step-has events.ToggleItemAndAdvance h had = same-has w0 _ _ (other-texts drawn left w events.ToggleItemAndAdvance refl) had
  step-has events.ToggleAll h had = same-has w0 _ _ (other-texts drawn left w events.ToggleAll refl) had
  step-has events.ToggleAllUniform h had = same-has w0 _ _ (other-texts drawn left w events.ToggleAllUniform refl) had
  step-has events.ExpandItem h had = same-has w0 _ _ (other-texts drawn left w events.ExpandItem refl) had
  step-has events.ExpandAll h had = same-has w0 _ _ (other-texts drawn left w events.ExpandAll refl) had
  step-has (events.Click row column) h had = same-has w0 _ _ (other-texts drawn left w (events.Click row column) refl) had
  step-has events.ToggleCommitViewMode h had = same-has w0 _ _ (other-texts drawn left w events.ToggleCommitViewMode refl) had
  step-has events.EditCommitMessage h had = same-has w0 _ _ (other-texts drawn left w events.EditCommitMessage refl) had
  step-has events.Help h had = same-has w0 _ _ (other-texts drawn left w events.Help refl) had

after-has : (w0 : World) (q : Point) → IsPlaced (Before w0) q → HasShots w0 (world_at q).texts → HasShots w0 (world_at (after q)).texts
after-has w0 (Before w) h had = had
after-has w0 (Drawn w) h had = subst (λ (x : Texts). HasShots w0 x) (sym (batch-texts w w.session.pending)) had
after-has w0 (Within drawn w []) h had = had
after-has w0 (Within drawn w (event ∷ left)) h had = step-has w0 event h.1 had
after-has w0 (Accepted w) h had = had
after-has w0 (Failed fault w) h had = had

reaches-has : (w0 : World) {q : Point} → Reaches (Before w0) q → HasShots w0 (world_at q).texts
unfolding HasShots
reaches-has w0 here = λ place text e. inl e
reaches-has w0 (on {q = q} r) = after-has w0 q (reaches-placed (Before w0) tt r) (reaches-has w0 r)

module _ (s : Session) (a b : Setting) where
  -- the store of a run that is accepted
  pub reached-stores : (w : World) → Reaches (Before (world_in a s 0)) (Accepted w) → w.texts ≡ b.store.texts → StoreHasShots (Before (world_in a s 0)) a.store b.store
  unfolding HasShots
  reached-stores w r e = subst (λ (x : Texts). HasShots (world_in a s 0) x) e (reaches-has (world_in a s 0) r)

  stopped-by : (f : Option Fault) (w : World) → MatchOption f ((q : Point) × Reaches (Before (world_in a s 0)) q × IsSameButSession w (world_at q)) (λ fault. Reaches (Before (world_in a s 0)) (Failed fault w)) → HasShots (world_in a s 0) w.texts
  stopped-by None w h = subst (λ (x : Texts). HasShots (world_in a s 0) x) (sym h.2.texts) (reaches-has (world_in a s 0) h.1)
  stopped-by (Some fault) w h = reaches-has (world_in a s 0) h

  -- and of one that stops
  pub stopped-stores : (error : RecordError) (w : World) → Stops error (Before (world_in a s 0)) w → w.texts ≡ b.store.texts → StoreHasShots (Before (world_in a s 0)) a.store b.store
  unfolding HasShots
  stopped-stores error w h e = subst (λ (x : Texts). HasShots (world_in a s 0) x) e (stopped-by (fault_of error) w h)
