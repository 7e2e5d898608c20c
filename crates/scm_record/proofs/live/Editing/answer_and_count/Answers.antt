use Rattle.std.proofs.Common.{◌≡◌, ℕ, ◌∙◌, ap, refl, sym, subst}
use Rattle.std.proofs.lemmas.Result.{err_from_is_err_and, IfOk-weaker, IfErr-weaker}
use Rattle.std.specs.Prelude.{string_bytes}
use Rattle.scm_record.specs.Session.{Session, IsDrawable, with_message}
use Rattle.scm_record.specs.Frames.{IsSceneOf, Scene, scene_of}
use Rattle.scm_record.specs.Live.{LiveEdit}
use Rattle.scm_record.specs.HandledCount.{counted, rest_count}
use Rattle.scm_record.proofs.CountLemmas.{count-same, counts-lost, rest-after, rest-refused}
use Rattle.scm_record.specs.LiveCalls.{live_setting}
use Rattle.scm_record.proofs.AcceptedLemmas.{message-keeps-drawable}
use Rattle.scm_record.proofs.HandleLemmas.{handles-same}
use Rattle.scm_record.proofs.RunLemmas.{reaches-trans}
use Rattle.scm_record.proofs.LiveLemmas.{leads-after, fails-after, fails-memory, says-on, says-too-long}
use Rattle.scm_record.proofs.live.Editing.answer_and_count.Goals as goal

pub returns-then-not-is_short-clause-err : goal.returns-then-not-is_short-clause-err
returns-then-not-is_short-clause-err c = λ drawn reads edits frames seen.
    says-too-long c.args.self (string_bytes c.args.text) drawn reads edits frames c.if-not-is_short.ensures c.too_long.result c.too_long.ensures

-- ---- the rest of the batch

pub handle_each-requires : goal.handle_each-requires
handle_each-requires c =
    let shown = c.self.invariant.shown in
    let scene = scene_of c.self.inside.kind shown.0 in
    record { shown = (scene, subst (IsSceneOf scene) (sym c.deref-2.ensures) shown.1) }

pub returns-in_err-rest_end-clause-err : goal.returns-in_err-rest_end-clause-err
returns-in_err-rest_end-clause-err c =
    let p = err_from_is_err_and c.from_residual.result c.from_residual.ensures.1 in
    rw (p.1, p.2) (λ drawn reads edits frames seen. fails-memory _ c.in_err-rest_end.field-0.0 c.in_err-rest_end.ensures.err)

pub turn_after-requires-clause-drawable : goal.turn_after-requires-clause-drawable
turn_after-requires-clause-drawable c =
    let same = c.set_message.ensures ∙ ap (λ (s : Session). with_message s c.self.inside.commit (string_bytes c.args.text)) c.deref_mut.ensures.value in
    c.in_ok-rest_end.ensures.ok.drawable
    (subst IsDrawable (sym (c.deref_mut-2.ensures.value ∙ same))
    (message-keeps-drawable c.self.inside.session.value c.self.inside.commit (string_bytes c.args.text) (sym c.if-not-is_short.ensures) c.self.invariant.drawable))

pub turn_after-requires-clause-all : goal.turn_after-requires-clause-all
turn_after-requires-clause-all c = c.in_ok-rest_end.ensures.ok.all

pub turn_after-requires-clause-said : goal.turn_after-requires-clause-said
turn_after-requires-clause-said c = c.in_ok-rest_end.ensures.ok.said

pub turn_after-requires-clause-shown : goal.turn_after-requires-clause-shown
turn_after-requires-clause-shown c = c.self.invariant.shown

pub returns-clause-ok : goal.returns-clause-ok
returns-clause-ok c =
    let same = c.set_message.ensures ∙ ap (λ (s : Session). with_message s c.self.inside.commit (string_bytes c.args.text)) c.deref_mut.ensures.value in
    let handles = handles-same _ c.self.inside.frame.value _ _ c.set_message.new.self _ _ _ c.deref-2.ensures c.deref_mut-2.ensures.value c.in_ok-rest_end.ensures.ok in
    let a : LiveEdit = record { session = c.self.inside.session.value; kind = c.self.inside.kind; commit = c.self.inside.commit; frame = c.self.inside.frame.value; rest = c.self.inside.rest.items } in
    rw (sym c.self.view_is)
    (IfOk-weaker c.turn_after.result _ _ (λ turn leads drawn reads edits frames seen.
    leads-after _ _ a.kind reads edits turn
    (reaches-trans
    (says-on a (string_bytes c.args.text) drawn reads edits frames c.set_message.new.self c.deref-3.result.now same c.deref-3.ensures.value c.if-not-is_short.ensures)
    (handles.reached (live_setting a.kind reads edits) drawn frames seen))
    (leads drawn reads edits frames seen))
    c.turn_after.ensures.ok)

pub returns-clause-err : goal.returns-clause-err
returns-clause-err c =
    let same = c.set_message.ensures ∙ ap (λ (s : Session). with_message s c.self.inside.commit (string_bytes c.args.text)) c.deref_mut.ensures.value in
    let handles = handles-same _ c.self.inside.frame.value _ _ c.set_message.new.self _ _ _ c.deref-2.ensures c.deref_mut-2.ensures.value c.in_ok-rest_end.ensures.ok in
    let a : LiveEdit = record { session = c.self.inside.session.value; kind = c.self.inside.kind; commit = c.self.inside.commit; frame = c.self.inside.frame.value; rest = c.self.inside.rest.items } in
    rw (sym c.self.view_is)
    (IfErr-weaker c.turn_after.result _ _ (λ e fails drawn reads edits frames seen.
    fails-after _ _ e
    (reaches-trans
    (says-on a (string_bytes c.args.text) drawn reads edits frames c.set_message.new.self c.deref-3.result.now same c.deref-3.ensures.value c.if-not-is_short.ensures)
    (handles.reached (live_setting a.kind reads edits) drawn frames seen))
    (fails drawn reads edits frames seen))
    c.turn_after.ensures.err)

-- ---- how many events of the rest are handled

pub returns-then-not-is_short-clause-counted : goal.returns-then-not-is_short-clause-counted
returns-then-not-is_short-clause-counted c = counted (λ scene seen. rest-refused scene c.args.self (string_bytes c.args.text) c.if-not-is_short.ensures)

pub returns-in_err-rest_end-clause-counted : goal.returns-in_err-rest_end-clause-counted
returns-in_err-rest_end-clause-counted c =
    let p = err_from_is_err_and c.from_residual.result c.from_residual.ensures.1 in
    counts-lost (λ (count : ℕ). (scene : Scene) → IsSceneOf scene c.args.self.frame → count ≡ rest_count scene c.args.self (string_bytes c.args.text)) c.from_residual.result p.0 0 p.1 (p.2 ∙ c.in_err-rest_end.ensures.err) refl

pub returns-clause-counted : goal.returns-clause-counted
returns-clause-counted c =
    let same = c.set_message.ensures ∙ ap (λ (s : Session). with_message s c.self.inside.commit (string_bytes c.args.text)) c.deref_mut.ensures.value in
    let a : LiveEdit = record { session = c.self.inside.session.value; kind = c.self.inside.kind; commit = c.self.inside.commit; frame = c.self.inside.frame.value; rest = c.self.inside.rest.items } in
    rw (sym c.self.view_is)
    (counted (λ scene seen. rest-after scene a (string_bytes c.args.text) c.in_ok-rest_end.rest_end.handled c.if-not-is_short.ensures
    (count-same _ a.frame _ a.rest _ (with_message a.session a.commit (string_bytes c.args.text)) c.in_ok-rest_end.rest_end.handled c.deref-2.ensures (c.deref_mut-2.ensures.value ∙ same) c.deref-3.ensures.value c.in_ok-rest_end.ensures.counted scene seen)))
