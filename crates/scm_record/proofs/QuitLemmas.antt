-- A run is accepted exactly if it reaches a confirmed quit.
use Rattle.std.proofs.Common.{◌≡◌, ℕ, Bool, true, false, List, [], ◌∷◌, length, Option, Some, None, cond, ap, ◌∙◌, refl, subst}
use Rattle.std.specs.Prelude.{MatchOption, is_some, nat_lt}
use Rattle.scm_errors.specs.declared.error.RecordError.{RecordError}
use Rattle.scm_types.specs.declared.state.RecordState.{RecordState}
use Rattle.scm_errors.specs.Fault.{Fault, fault_of}
use Rattle.scm_types.specs.Limits.{is_short_text}
use Rattle.scm_overlay.specs.declared.quit_dialog.QuitDialog.{QuitDialog}
use Rattle.scm_input.specs.declared.events.Event.{Event}
use Rattle.scm_input.specs.declared.events.Event.TheVariants as events
use Rattle.scm_record.specs.declared.session.Flow.{Flow}
use Rattle.scm_record.specs.declared.session.Flow.TheVariants as flows
use Rattle.scm_input.specs.Script.{Read, Batch, BrokenRead, Edit, Answer, BrokenEdit, Reply, no_messages_left}
use Rattle.scm_record.specs.Session.{Session, with_help, message_text, with_message}
use Rattle.scm_record.specs.Frames.{Scene, scene_of}
use Rattle.scm_record.specs.FrameQueries.{shot_of}
use Rattle.scm_record.specs.Change.{stays, accepts}
use Rattle.scm_record.specs.Step.{change}
use Rattle.scm_record.specs.Run.{World, with_session, with_edits, with_text, Goes, Breaks, no_such_place, too_long, after_answer, after_edit, outcome_by, after_change, step, Point, Before, Drawn, Within, Accepted, Failed, resume, next_read, batch, after, Reaches, here, on, world_at, IsSameButSession, Stops}
use Rattle.scm_record.specs.Headline.{ConfirmsQuit}
use Rattle.scm_record.proofs.EndLemmas.{one_end}
use Rattle.scm_record.proofs.CalmLemmas.{is_calm, is_lively, calm}

-- ---- confirmed quits

-- an accepted point is one after a confirmed quit
abbrev IsConfirmed : Point → Point → Type 0
IsConfirmed p (Before w) = Unit {0}
IsConfirmed p (Drawn w) = Unit {0}
IsConfirmed p (Within drawn w left) = Unit {0}
IsConfirmed p (Accepted w) = ConfirmsQuit p w.session.shown.state
IsConfirmed p (Failed fault w) = Unit {0}

module _ (p : Point) where
  read-confirmed : (w : World) (reads : List Read) → IsConfirmed p (next_read w reads)
  read-confirmed w [] = tt
  read-confirmed w (Batch list ∷ reads) = tt
  read-confirmed w (BrokenRead fault ∷ reads) = tt

  batch-confirmed : (w : World) (pending : List Event) → IsConfirmed p (batch w pending)
  batch-confirmed w [] = read-confirmed w w.reads
  batch-confirmed w (event ∷ rest) = tt

  module _ (drawn : Session) (left : List Event) where
    either-confirmed : (b : Bool) (v u : World) (fault : Fault) → IsConfirmed p (resume drawn left (cond b (Goes v) (Breaks fault u)))
    either-confirmed true v u fault = tt
    either-confirmed false v u fault = tt

    answered-confirmed : (w : World) (commit : ℕ) (edit : Edit) → IsConfirmed p (resume drawn left (after_answer w commit edit))
    answered-confirmed w commit (Answer text) = either-confirmed (is_short_text text) (with_session w (with_message w.session commit text)) w too_long
    answered-confirmed w commit (BrokenEdit fault) = tt

    edited-confirmed : (w : World) (commit : ℕ) (edits : List Reply) → IsConfirmed p (resume drawn left (after_edit w commit edits))
    edited-confirmed w commit [] = answered-confirmed (with_edits w []) commit no_messages_left
    edited-confirmed w commit (reply ∷ edits) = answered-confirmed (with_edits w edits) commit (reply (message_text w.session commit))

    -- what isn't accepted needs no quit
    calm-confirmed : (scene : Scene) (w : World) (flow : Flow) → is_calm flow ≡ true → IsConfirmed p (resume drawn left (outcome_by scene w flow))
    calm-confirmed scene w flows.GoOn e = tt
    calm-confirmed scene w flows.Accept e = cc
    calm-confirmed scene w flows.Cancel e = tt
    calm-confirmed scene w (flows.Edit commit) e = edited-confirmed w commit w.edits
    calm-confirmed scene w (flows.Shoot place) e = cc

    quit-confirmed : (scene : Scene) (w : World) → Reaches p (Within drawn w (events.QuitAccept ∷ left)) → (dialog : Option QuitDialog) (help : Bool) → w.session.shown.quit_dialog ≡ dialog → w.session.shown.is_help_open ≡ help → IsConfirmed p (resume drawn left (after_change scene w (cond (is_some dialog) (stays w.session) (cond help (stays (with_help w.session false)) (accepts w.session)))))
    quit-confirmed scene w r (Some dialog) help e f = tt
    quit-confirmed scene w r None true e f = tt
    quit-confirmed scene w r None false e f = record {
      drawn = drawn;
      world = w;
      left = left;
      reached = r;
      no_dialog = e;
      no_help = f;
      confirmed = refl;
    }

    other-confirmed : (w : World) (event : Event) → is_lively event ≡ false → IsConfirmed p (resume drawn left (step drawn w event))
    other-confirmed w event e =
        let scene = scene_of w.kind drawn in
        let c = change scene w.session event in
        calm-confirmed scene (with_session w c.session) c.flow (calm w.session scene event e).flow

    step-confirmed : (w : World) (event : Event) → Reaches p (Within drawn w (event ∷ left)) → IsConfirmed p (resume drawn left (step drawn w event))
    step-confirmed w events.QuitAccept r = quit-confirmed (scene_of w.kind drawn) w r w.session.shown.quit_dialog w.session.shown.is_help_open refl refl
    step-confirmed w events.Redraw r = tt
    step-confirmed w events.None r = other-confirmed w events.None refl
    step-confirmed w events.QuitCancel r = other-confirmed w events.QuitCancel refl
    step-confirmed w events.QuitInterrupt r = other-confirmed w events.QuitInterrupt refl
    step-confirmed w events.QuitEscape r = other-confirmed w events.QuitEscape refl
    step-confirmed w (events.TakeScreenshot shot) r = either-confirmed (nat_lt shot.place (length w.texts)) (with_text w shot.place (shot_of (scene_of w.kind drawn) w.session.cleared)) w no_such_place
    step-confirmed w events.EnsureSelectionInViewport r = other-confirmed w events.EnsureSelectionInViewport refl
    step-confirmed w events.ScrollUp r = other-confirmed w events.ScrollUp refl
    step-confirmed w events.ScrollDown r = other-confirmed w events.ScrollDown refl
    step-confirmed w events.PageUp r = other-confirmed w events.PageUp refl
    step-confirmed w events.PageDown r = other-confirmed w events.PageDown refl
    step-confirmed w events.FocusPrev r = other-confirmed w events.FocusPrev refl
    step-confirmed w events.FocusPrevSameKind r = other-confirmed w events.FocusPrevSameKind refl
    step-confirmed w events.FocusPrevPage r = other-confirmed w events.FocusPrevPage refl
    step-confirmed w events.FocusNext r = other-confirmed w events.FocusNext refl
    step-confirmed w events.FocusNextSameKind r = other-confirmed w events.FocusNextSameKind refl
    step-confirmed w events.FocusNextPage r = other-confirmed w events.FocusNextPage refl
    step-confirmed w events.FocusInner r = other-confirmed w events.FocusInner refl
    step-confirmed w (events.FocusOuter fold_section) r = other-confirmed w (events.FocusOuter fold_section) refl
    step-confirmed w events.ToggleItem r = other-confirmed w events.ToggleItem refl
    step-confirmed w events.ToggleItemAndAdvance r = other-confirmed w events.ToggleItemAndAdvance refl
    step-confirmed w events.ToggleAll r = other-confirmed w events.ToggleAll refl
    step-confirmed w events.ToggleAllUniform r = other-confirmed w events.ToggleAllUniform refl
    step-confirmed w events.ExpandItem r = other-confirmed w events.ExpandItem refl
    step-confirmed w events.ExpandAll r = other-confirmed w events.ExpandAll refl
    step-confirmed w (events.Click row column) r = other-confirmed w (events.Click row column) refl
    step-confirmed w events.ToggleCommitViewMode r = other-confirmed w events.ToggleCommitViewMode refl
    step-confirmed w events.EditCommitMessage r = other-confirmed w events.EditCommitMessage refl
    step-confirmed w events.Help r = other-confirmed w events.Help refl

  after-confirmed : (q : Point) → Reaches p q → IsConfirmed p q → IsConfirmed p (after q)
  after-confirmed (Before w) r h = tt
  after-confirmed (Drawn w) r h = batch-confirmed w w.session.pending
  after-confirmed (Within drawn w []) r h = tt
  after-confirmed (Within drawn w (event ∷ left)) r h = step-confirmed drawn left w event r
  after-confirmed (Accepted w) r h = h
  after-confirmed (Failed fault w) r h = tt

  reaches-confirmed : {q : Point} → IsConfirmed p p → Reaches p q → IsConfirmed p q
  reaches-confirmed h here = h
  reaches-confirmed h (on {q = q} r) = after-confirmed q r (reaches-confirmed h r)

-- a run that is accepted confirmed a quit
pub accepted-confirmed : (w v : World) → Reaches (Before w) (Accepted v) → ConfirmsQuit (Before w) v.session.shown.state
accepted-confirmed w v r = reaches-confirmed (Before w) tt r

abbrev is_accepted_point : Point → Bool
is_accepted_point (Before w) = false
is_accepted_point (Drawn w) = false
is_accepted_point (Within drawn w left) = false
is_accepted_point (Accepted w) = true
is_accepted_point (Failed fault w) = false

no-both : (p : Point) (v u : World) (fault : Fault) → Reaches p (Accepted v) → Reaches p (Failed fault u) → ⊥
no-both p v u fault a b =
    let e : true ≡ false = ap is_accepted_point (one_end p (Accepted v) (Failed fault u) a b tt tt) in
    cc

-- a confirmed quit is accepted
quit-accepts : (w : World) (drawn : Session) (left : List Event) (dialog : Option QuitDialog) (help : Bool) → w.session.shown.quit_dialog ≡ dialog → w.session.shown.is_help_open ≡ help → dialog ≡ None → help ≡ false → after (Within drawn w (events.QuitAccept ∷ left)) ≡ Accepted w
quit-accepts w drawn left dialog help e f e' f' =
    let scene = scene_of w.kind drawn in
    ap (λ (d : Option QuitDialog). resume drawn left (after_change scene w (cond (is_some d) (stays w.session) (cond w.session.shown.is_help_open (stays (with_help w.session false)) (accepts w.session))))) (e ∙ e')
    ∙ ap (λ (b : Bool). resume drawn left (after_change scene w (cond b (stays (with_help w.session false)) (accepts w.session)))) (f ∙ f')

pub confirmed-accepts : (p : Point) (state : RecordState) → (quit : ConfirmsQuit p state) → Reaches p (Accepted quit.world)
confirmed-accepts p state quit =
    subst (λ (q : Point). Reaches p q) (quit-accepts quit.world quit.drawn quit.left quit.world.session.shown.quit_dialog quit.world.session.shown.is_help_open refl refl quit.no_dialog quit.no_help) (on quit.reached)

-- and a run that reaches a fault confirmed none
pub fault-unconfirmed : (p : Point) (fault : Fault) (w : World) → Reaches p (Failed fault w) → (state : RecordState) → ConfirmsQuit p state → ⊥
fault-unconfirmed p fault w r state quit = no-both p quit.world w fault (confirmed-accepts p state quit) r

refuses-by : (f : Option Fault) (p : Point) (w : World) → MatchOption f ((q : Point) × Reaches p q × IsSameButSession w (world_at q)) (λ fault. Reaches p (Failed fault w)) → MatchOption f (Unit {0}) (λ fault. (state : RecordState) → ConfirmsQuit p state → ⊥)
refuses-by None p w h = tt
refuses-by (Some fault) p w h = fault-unconfirmed p fault w h

-- the same for one that fails with an error
pub failed-unconfirmed : (error : RecordError) (p : Point) (w : World) → Stops error p w → MatchOption (fault_of error) (Unit {0}) (λ fault. (state : RecordState) → ConfirmsQuit p state → ⊥)
failed-unconfirmed error p w h = refuses-by (fault_of error) p w h
