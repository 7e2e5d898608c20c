use Rattle.std.proofs.Common.{◌≡◌, ℕ, ◌∙◌, refl, sym, subst}
use Rattle.std.proofs.lemmas.Result.{err_from_is_err_and, IfOk-weaker, IfErr-weaker}
use Rattle.scm_record.specs.Session.{Session, IsDrawable}
use Rattle.scm_record.specs.Frames.{IsSceneOf, scene_of}
use Rattle.scm_record.specs.RunContracts.{IsCurrent}
use Rattle.scm_record.specs.LiveCalls.{live_setting}
use Rattle.scm_record.specs.Live.{Live}
use Rattle.scm_record.specs.HandledCount.{batch_count, counted}
use Rattle.scm_record.proofs.CountLemmas.{count-same, counts-lost}
use Rattle.scm_record.proofs.HandleLemmas.{handles-same}
use Rattle.scm_record.proofs.RunLemmas.{reaches-trans}
use Rattle.scm_record.proofs.LiveLemmas.{leads-after, fails-after, fails-memory, reads-batch}
use Rattle.scm_record.proofs.CurrentLemmas.{shown-current}
use Rattle.scm_record.proofs.live.LiveSession.handle_and_count.Goals as goal

pub handle_each-requires : goal.handle_each-requires
handle_each-requires c =
    let scene = scene_of c.self.inside.kind c.self.inside.session.value in
    record { shown = (scene, subst (IsSceneOf scene) (sym c.deref.ensures) c.self.invariant.shown) }

pub returns-in_err-end-clause-err : goal.returns-in_err-end-clause-err
returns-in_err-end-clause-err c =
    let p = err_from_is_err_and c.from_residual.result c.from_residual.ensures.1 in
    rw (p.1, p.2) (λ reads edits frames. fails-memory _ c.in_err-end.field-0.0 c.in_err-end.ensures.err)

pub turn_after-requires-clause-drawable : goal.turn_after-requires-clause-drawable
turn_after-requires-clause-drawable c = c.in_ok-end.ensures.ok.drawable (subst IsDrawable (sym c.deref_mut.ensures.value) c.self.invariant.calm.drawable)

pub turn_after-requires-clause-all : goal.turn_after-requires-clause-all
turn_after-requires-clause-all c = c.in_ok-end.ensures.ok.all

pub turn_after-requires-clause-said : goal.turn_after-requires-clause-said
turn_after-requires-clause-said c = c.in_ok-end.ensures.ok.said

pub turn_after-requires-clause-shown : goal.turn_after-requires-clause-shown
turn_after-requires-clause-shown c = (c.self.inside.session.value, c.self.invariant.shown)

pub turn_after-requires-clause-current : goal.turn_after-requires-clause-current
turn_after-requires-clause-current c = λ kept.
    let h = c.self.invariant.shown in
    let current = shown-current c.self.inside.frame.value c.self.inside.kind c.self.inside.session.value (record { width = h.width; height = h.height }) h in
    subst (λ (s : Session). IsCurrent s c.self.inside.frame.value) (sym (c.in_ok-end.ensures.kept kept ∙ c.deref_mut.ensures.value)) current

pub returns-clause-ok : goal.returns-clause-ok
returns-clause-ok c =
    let handles = handles-same _ c.self.inside.frame.value _ _ c.self.inside.session.value _ _ _ c.deref.ensures c.deref_mut.ensures.value c.in_ok-end.ensures.ok in
    let l : Live = record { session = c.self.inside.session.value; kind = c.self.inside.kind } in
    rw (sym c.self.view_is)
    (IfOk-weaker c.turn_after.result _ _ (λ turn leads reads edits frames.
    leads-after _ _ l.kind reads edits turn
    (reaches-trans (reads-batch l c.args.events.now reads edits frames c.self.invariant.calm.calm)
    (handles.reached (live_setting l.kind reads edits) l.session frames c.self.invariant.shown))
    (leads l.session reads edits frames c.self.invariant.shown))
    c.turn_after.ensures.ok)

pub returns-clause-err : goal.returns-clause-err
returns-clause-err c =
    let handles = handles-same _ c.self.inside.frame.value _ _ c.self.inside.session.value _ _ _ c.deref.ensures c.deref_mut.ensures.value c.in_ok-end.ensures.ok in
    let l : Live = record { session = c.self.inside.session.value; kind = c.self.inside.kind } in
    rw (sym c.self.view_is)
    (IfErr-weaker c.turn_after.result _ _ (λ e fails reads edits frames.
    fails-after _ _ e
    (reaches-trans (reads-batch l c.args.events.now reads edits frames c.self.invariant.calm.calm)
    (handles.reached (live_setting l.kind reads edits) l.session frames c.self.invariant.shown))
    (fails l.session reads edits frames c.self.invariant.shown))
    c.turn_after.ensures.err)

-- ---- how many events are handled

pub returns-in_err-end-clause-counted : goal.returns-in_err-end-clause-counted
returns-in_err-end-clause-counted c =
    let p = err_from_is_err_and c.from_residual.result c.from_residual.ensures.1 in
    counts-lost (λ (count : ℕ). count ≡ batch_count c.args.self c.args.events.now) c.from_residual.result p.0 0 p.1 (p.2 ∙ c.in_err-end.ensures.err) refl

pub returns-clause-counted : goal.returns-clause-counted
returns-clause-counted c =
    let l : Live = record { session = c.self.inside.session.value; kind = c.self.inside.kind } in
    rw (sym c.self.view_is)
    (counted (count-same _ c.self.inside.frame.value c.args.events.now c.args.events.now _ c.self.inside.session.value c.in_ok-end.end.handled c.deref.ensures c.deref_mut.ensures.value refl c.in_ok-end.ensures.counted
    (scene_of l.kind l.session) c.self.invariant.shown))
