use Rattle.std.proofs.Common.{◌≡◌, ℕ, ◌+◌, ◌<◌, List, length, sym, ap, ◌∙◌, refl, subst}
use Rattle.std.proofs.lemmas.Result.{err_from_is_err_and, IfOk-weaker, IfErr-weaker}
use Rattle.scm_input.specs.declared.events.Event.{Event}
use Rattle.scm_input.specs.Script.{Read, Reply}
use Rattle.scm_record.specs.declared.session.Flow.{Flow}
use Rattle.scm_record.specs.Session.{Session, after_frame, without_pending}
use Rattle.scm_record.specs.Frames.{IsSceneOf, Scene, scene_of}
use Rattle.scm_record.specs.Quiet.{after_ensure}
use Rattle.scm_record.specs.Run.{world_in, after_edit, resume, Reaches, on}
use Rattle.scm_record.specs.Batches.{point_by}
use Rattle.scm_record.specs.RunContracts.{IsCurrent}
use Rattle.scm_record.specs.LiveCalls.{live_setting}
use Rattle.scm_record.proofs.Budget.{rank_of, turns_of}
use Rattle.scm_record.proofs.RunLemmas.{reaches-trans}
use Rattle.scm_record.proofs.HandleLemmas.{handles-same}
use Rattle.scm_record.proofs.QuietLemmas.{quiet-steps}
use Rattle.scm_record.proofs.CurrentLemmas.{current-after, seen-same}
use Rattle.scm_record.proofs.LiveLemmas.{drawn-drawable, leads-after, fails-after, fails-memory, frames-next, ends, edits, gives-up, lacks-place, waits-at, comes-to-batch, handled-falls, none-pending, shown-sized}
use Rattle.scm_record.proofs.live.+turn_after.Goals as goal

-- ---- only the selection is to be shown

pub show_selection-requires-clause-pending : goal.show_selection-requires-clause-pending
show_selection-requires-clause-pending t c = ap (λ (s : Session). s.pending) (sym c.deref.ensures) ∙ c.has_ensure_alone.ensures.0 c.if-has_ensure_alone.true

pub returns-in_err-show_selection-in-GoOn-clause-err : goal.returns-in_err-show_selection-in-GoOn-clause-err
returns-in_err-show_selection-in-GoOn-clause-err t c =
    let p = err_from_is_err_and c.from_residual.result c.from_residual.ensures.1 in
    rw (p.1, p.2) (λ drawn reads edits frames seen. fails-memory _ c.in_err-show_selection-in-GoOn.field-0.0 c.in_err-show_selection-in-GoOn.ensures.err)

pub returns-then-has_ensure_alone-clause-ok : goal.returns-then-has_ensure_alone-clause-ok
returns-then-has_ensure_alone-clause-ok t c = λ drawn reads edits frames seen.
    let a = live_setting c.args.kind reads edits in
    let s = c.args.session.value in
    let pending = ap (λ (x : Session). x.pending) (sym c.deref.ensures) ∙ c.has_ensure_alone.ensures.0 c.if-has_ensure_alone.true in
    waits-at _ c.args.kind reads edits (after_ensure c.args.kind (after_frame s)) (frames + 1) c.in_ok-show_selection-in-GoOn.field-0 refl c.in_ok-show_selection-in-GoOn.ensures.ok
    (reaches-trans (frames-next a drawn s frames c.args.end.flow c.args.end.rest.now c.in-GoOn.is c.requires.all) (quiet-steps a s frames pending))

-- ---- nothing is pending

pub wait-requires-clause-calm : goal.wait-requires-clause-calm
wait-requires-clause-calm t c =
    ap (λ (s : Session). s.pending) (sym c.deref-in-GoOn.ensures)
    ∙ none-pending c.deref-in-GoOn.result.now.pending c.has_pending.result c.has_pending.ensures.1 c.if-not-has_pending.true

pub returns-in_err-wait-in-GoOn-clause-err : goal.returns-in_err-wait-in-GoOn-clause-err
returns-in_err-wait-in-GoOn-clause-err t c =
    let p = err_from_is_err_and c.from_residual-in_err-wait-in-GoOn.result c.from_residual-in_err-wait-in-GoOn.ensures.1 in
    rw (p.1, p.2) (λ drawn reads edits frames seen. fails-memory _ c.in_err-wait-in-GoOn.field-0.0 c.in_err-wait-in-GoOn.ensures.err)

pub returns-then-not-has_pending-clause-ok : goal.returns-then-not-has_pending-clause-ok
returns-then-not-has_pending-clause-ok t c = λ drawn reads edits frames seen.
    let a = live_setting c.args.kind reads edits in
    let s = c.args.session.value in
    let calm = ap (λ (x : Session). x.pending) (sym c.deref-in-GoOn.ensures) ∙ none-pending c.deref-in-GoOn.result.now.pending c.has_pending.result c.has_pending.ensures.1 c.if-not-has_pending.true in
    waits-at _ c.args.kind reads edits s frames c.in_ok-wait-in-GoOn.field-0 calm c.in_ok-wait-in-GoOn.ensures.ok
    (frames-next a drawn s frames c.args.end.flow c.args.end.rest.now c.in-GoOn.is c.requires.all)

-- ---- a frame, and a batch

pub returns-in_err-pending-in-GoOn-clause-err : goal.returns-in_err-pending-in-GoOn-clause-err
returns-in_err-pending-in-GoOn-clause-err t c =
    let p = err_from_is_err_and c.from_residual-in_err-pending-in-GoOn.result c.from_residual-in_err-pending-in-GoOn.ensures.1 in
    rw (p.1, p.2) (λ drawn reads edits frames seen. fails-memory _ c.in_err-pending-in-GoOn.field-0.0 c.in_err-pending-in-GoOn.ensures.err)

pub handle_each-requires : goal.handle_each-requires
handle_each-requires t c =
    let scene = scene_of c.args.kind (after_frame c.args.session.value) in
    let sized = shown-sized c.args.kind c.requires.shown.0 c.args.frame.value c.requires.shown.1 in
    let seen = seen-same c.args.kind _ _ _ _ _ c.deref_mut.ensures.value c.deref_mut-in-GoOn.ensures.value sized c.in_ok-pending-in-GoOn.ensures.shown in
    record { shown = (scene, subst (IsSceneOf scene) (sym c.deref-in-GoOn-2.ensures) seen) }

pub returns-in_err-next-in-GoOn-clause-err : goal.returns-in_err-next-in-GoOn-clause-err
returns-in_err-next-in-GoOn-clause-err t c =
    let p = err_from_is_err_and c.from_residual-in_err-next-in-GoOn.result c.from_residual-in_err-next-in-GoOn.ensures.1 in
    rw (p.1, p.2) (λ drawn reads edits frames seen. fails-memory _ c.in_err-next-in-GoOn.field-0.0 c.in_err-next-in-GoOn.ensures.err)

pub turn_after-requires : goal.turn_after-requires
turn_after-requires t c =
    let s = c.args.session.value in
    let u = c.advance.new.session in
    let v = c.handle_each.new.session in
    let flow = c.in_ok-next-in-GoOn.next.flow in
    let sized = shown-sized c.args.kind c.requires.shown.0 c.args.frame.value c.requires.shown.1 in
    let rest = c.in_ok-pending-in-GoOn.ensures.rest ∙ ap (λ (x : Session). without_pending (after_frame x)) c.deref_mut.ensures.value in
    let seen = seen-same c.args.kind s _ _ _ _ c.deref_mut.ensures.value c.deref_mut-in-GoOn.ensures.value sized c.in_ok-pending-in-GoOn.ensures.shown in
    let same : c.deref-in-GoOn-3.result.now ≡ s.pending = c.deref-in-GoOn-3.ensures.value ∙ c.in_ok-pending-in-GoOn.ensures.taken ∙ ap (λ (x : Session). x.pending) c.deref_mut.ensures.value in
    let old = ap (λ (x : Session). x.pending) c.deref-in-GoOn.ensures in
    let some : 0 < length c.deref-in-GoOn-3.result.now = subst (λ (list : List Event). 0 < length list) (old ∙ sym same) (c.has_pending.ensures.0 c.if-not-has_pending.false) in
    let handles = handles-same _ c.advance.new.frame _ _ u _ _ _ c.deref-in-GoOn-2.ensures c.deref_mut-in-GoOn-2.ensures.value c.in_ok-next-in-GoOn.ensures.ok in
    let low = handled-falls (λ (scene : Scene). IsSceneOf scene c.advance.new.frame) c.deref-in-GoOn-3.result.now c.in_ok-next-in-GoOn.next.rest.now u v flow handles c.args.kind (after_frame s) seen (ap (λ (x : Session). x.pending) rest) some in
    let below : turns_of flow v.pending < rank_of s.pending + 1 = subst (λ (list : List Event). turns_of flow v.pending < rank_of list + 1) same low in
    let falls = subst (λ (f : Flow). turns_of flow v.pending < turns_of f s.pending) (sym c.in-GoOn.is) below in (
      subst (λ (m : ℕ). turns_of flow v.pending < m) c.decreases falls,
      (
        handles.drawable (drawn-drawable s u rest c.requires.drawable),
        (
          handles.all,
          (
            handles.said,
            (
              (after_frame s, seen),
              λ kept.
                  subst (λ (x : Session). IsCurrent x c.advance.new.frame) (sym (c.in_ok-next-in-GoOn.ensures.kept kept ∙ c.deref_mut-in-GoOn-2.ensures.value))
                  (current-after c.advance.new.frame c.args.kind s u rest seen),
            ),
          ),
        ),
      ),
    )

-- the frame after which that batch is handled
next-seen : (t : ℕ) (c : goal.After-drop-pending-in-GoOn t) → IsSceneOf (scene_of c.args.kind (after_frame c.args.session.value)) c.advance.new.frame
next-seen t c =
    let sized = shown-sized c.args.kind c.requires.shown.0 c.args.frame.value c.requires.shown.1 in
    seen-same c.args.kind _ _ _ _ _ c.deref_mut.ensures.value c.deref_mut-in-GoOn.ensures.value sized c.in_ok-pending-in-GoOn.ensures.shown

-- the path to the end of the batch that was pending
path : (t : ℕ) (c : goal.After-drop-pending-in-GoOn t) (drawn : Session) (reads : List Read) (edits : List Reply) (frames : ℕ)
    → Reaches (point_by (live_setting c.args.kind reads edits) drawn c.args.session.value frames c.args.end.flow c.args.end.rest.now)
    (point_by (live_setting c.args.kind reads edits) (after_frame c.args.session.value) c.handle_each.new.session (frames + 1) c.in_ok-next-in-GoOn.next.flow c.in_ok-next-in-GoOn.next.rest.now)
path t c drawn reads edits frames =
    let a = live_setting c.args.kind reads edits in
    let s = c.args.session.value in
    let u = c.advance.new.session in
    let rest = c.in_ok-pending-in-GoOn.ensures.rest ∙ ap (λ (x : Session). without_pending (after_frame x)) c.deref_mut.ensures.value in
    let same : c.deref-in-GoOn-3.result.now ≡ s.pending = c.deref-in-GoOn-3.ensures.value ∙ c.in_ok-pending-in-GoOn.ensures.taken ∙ ap (λ (x : Session). x.pending) c.deref_mut.ensures.value in
    let old = ap (λ (x : Session). x.pending) c.deref-in-GoOn.ensures in
    let some : 0 < length c.deref-in-GoOn-3.result.now = subst (λ (list : List Event). 0 < length list) (old ∙ sym same) (c.has_pending.ensures.0 c.if-not-has_pending.false) in
    let handles = handles-same _ c.advance.new.frame _ _ u _ _ _ c.deref-in-GoOn-2.ensures c.deref_mut-in-GoOn-2.ensures.value c.in_ok-next-in-GoOn.ensures.ok in
    reaches-trans
    (comes-to-batch _ a s u (frames + 1) c.deref-in-GoOn-3.result.now same some rest
    (on (frames-next a drawn s frames c.args.end.flow c.args.end.rest.now c.in-GoOn.is c.requires.all)))
    (handles.reached a (after_frame s) (frames + 1) (next-seen t c))

pub returns-in-GoOn-clause-ok : goal.returns-in-GoOn-clause-ok
returns-in-GoOn-clause-ok t c =
    IfOk-weaker c.turn_after.result _ _ (λ turn leads drawn reads edits frames seen.
    leads-after _ _ c.args.kind reads edits turn (path t c drawn reads edits frames) (leads (after_frame c.args.session.value) reads edits (frames + 1) (next-seen t c)))
    c.turn_after.ensures.ok

pub returns-in-GoOn-clause-err : goal.returns-in-GoOn-clause-err
returns-in-GoOn-clause-err t c =
    IfErr-weaker c.turn_after.result _ _ (λ e fails drawn reads edits frames seen.
    fails-after _ _ e (path t c drawn reads edits frames) (fails (after_frame c.args.session.value) reads edits (frames + 1) (next-seen t c)))
    c.turn_after.ensures.err

-- ---- the other ends of a batch

pub returns-in-Accept-clause-ok : goal.returns-in-Accept-clause-ok
returns-in-Accept-clause-ok t c = λ drawn reads edits frames seen. (
  c.args.session.value,
  frames,
  sym (c.into_state.ensures ∙ ap (λ (s : Session). s.shown.state) c.into_inner.ensures),
  ends (live_setting c.args.kind reads edits) drawn c.args.session.value frames c.args.end.flow c.args.end.rest.now c.in-Accept.is,
)

pub returns-in-Cancel-clause-err : goal.returns-in-Cancel-clause-err
returns-in-Cancel-clause-err t c = λ drawn reads edits frames seen.
    gives-up (live_setting c.args.kind reads edits) drawn c.args.session.value frames c.args.end.flow c.args.end.rest.now c.in-Cancel.is

pub invariant_of-result : goal.invariant_of-result
invariant_of-result t c = record {
  drawable = c.requires.drawable;
  shown = c.requires.shown;
  said = c.requires.said c.in-Edit.commit c.in-Edit.is;
}

pub returns-in_err-rest-in-Edit-clause-err : goal.returns-in_err-rest-in-Edit-clause-err
returns-in_err-rest-in-Edit-clause-err t c =
    let p = err_from_is_err_and c.from_residual-in_err-rest-in-Edit.result c.from_residual-in_err-rest-in-Edit.ensures.1 in
    rw p.1 (λ drawn reads edits frames seen. fails-memory _ p.0 p.2)

pub returns-in-Edit-clause-ok : goal.returns-in-Edit-clause-ok
returns-in-Edit-clause-ok t c = λ drawn reads edits' frames seen.
    let a = live_setting c.args.kind reads edits' in
    let p = point_by a drawn c.args.session.value frames c.args.end.flow c.args.end.rest.now in (
      drawn,
      frames,
      refl,
      seen,
      subst (λ (l : List Event). Reaches p (resume drawn l (after_edit (world_in a c.args.session.value frames) c.in-Edit.commit edits'))) (sym c.in_ok-rest-in-Edit.ensures.items)
          (edits a drawn c.args.session.value frames c.args.end.flow c.args.end.rest.now c.in-Edit.commit c.in-Edit.is),
    )

pub returns-clause-err : goal.returns-clause-err
returns-clause-err t c = λ drawn reads edits frames seen.
    lacks-place (live_setting c.args.kind reads edits) drawn c.args.session.value frames c.args.end.flow c.args.end.rest.now _ c.in-Shoot.is refl c.no_such_place.result c.no_such_place.ensures
