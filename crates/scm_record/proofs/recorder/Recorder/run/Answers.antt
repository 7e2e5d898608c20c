use Rattle.std.proofs.Common.{◌≡◌, ℕ, None, sym, ◌∙◌, refl, subst}
use Rattle.std.proofs.lemmas.Result.{err_from_is_err_and}
use Rattle.scm_record.specs.Session.{Session, IsDrawable, message_of}
use Rattle.scm_record.specs.Run.{setting}
use Rattle.scm_record.proofs.StepCoherenceLemmas.{step_keeps_coherent}
use Rattle.scm_record.proofs.EditLemmas.{unedited-reached, unedited-stopped}
use Rattle.scm_record.proofs.EndLemmas.{one_end}
use Rattle.scm_record.proofs.EndingLemmas.{undrawn-fails}
use Rattle.scm_record.proofs.HeadlineLemmas.{headline-ok, headline-err}
use Rattle.scm_record.proofs.KeepingLemmas.{kept-reached}
use Rattle.scm_record.proofs.recorder.Recorder.run.Goals as goal

pub returns-in_err-frame-clause-err : goal.returns-in_err-frame-clause-err
returns-in_err-frame-clause-err g c =
    let p = err_from_is_err_and c.from_residual.result c.from_residual.ensures.1 in
    let it = (goal.RecordInput-dyn g c.args.input.now) in
    let a = setting (it.kind c.args.input.now.1) (it.reads c.args.input.now.1) (it.edits c.args.input.now.1) c.args.screens.now in
    rw (p.1, p.2) (undrawn-fails c.in_err-frame.field-0.0 c.args.self a c.in_err-frame.ensures.err)

pub returns-in_err-frame-clause-one_end : goal.returns-in_err-frame-clause-one_end
returns-in_err-frame-clause-one_end g c = one_end _

pub returns-in_err-run_to_end-clause-one_end : goal.returns-in_err-run_to_end-clause-one_end
returns-in_err-run_to_end-clause-one_end g c = one_end _

pub returns-clause-one_end : goal.returns-clause-one_end
returns-clause-one_end g c = one_end _

pub returns-clause-kept : goal.returns-clause-kept
returns-clause-kept g c = λ given accepted started.
    let ends = c.in_ok-run_to_end.ensures.ok in
    kept-reached given _ _ _ _ accepted started c.into_session-session.ensures.value ends.reached (ends.returned ∙ sym c.into_state.ensures)

pub returns-in_err-frame-clause-coherent : goal.returns-in_err-frame-clause-coherent
returns-in_err-frame-clause-coherent g c = step_keeps_coherent

pub returns-in_err-run_to_end-clause-coherent : goal.returns-in_err-run_to_end-clause-coherent
returns-in_err-run_to_end-clause-coherent g c = step_keeps_coherent

pub returns-clause-coherent : goal.returns-clause-coherent
returns-clause-coherent g c = step_keeps_coherent

pub returns-clause-unedited : goal.returns-clause-unedited
returns-clause-unedited g c = λ none.
    let none_there = subst (λ (s : Session). (commit : ℕ) → message_of s commit ≡ None) (sym c.into_session-session.ensures.value) none in
    unedited-reached _ none_there _ c.in_ok-run_to_end.ensures.ok.reached

pub returns-in_err-run_to_end-clause-unedited : goal.returns-in_err-run_to_end-clause-unedited
returns-in_err-run_to_end-clause-unedited g c = λ none.
    let none_there = subst (λ (s : Session). (commit : ℕ) → message_of s commit ≡ None) (sym c.into_session-session.ensures.value) none in
    unedited-stopped _ none_there _ _ c.in_err-run_to_end.ensures.err.stopped

pub returns-in_err-frame-clause-headline : goal.returns-in_err-frame-clause-headline
returns-in_err-frame-clause-headline g c =
    let p = err_from_is_err_and c.from_residual.result c.from_residual.ensures.1 in
    let it = (goal.RecordInput-dyn g c.args.input.now) in
    let a = setting (it.kind c.args.input.now.1) (it.reads c.args.input.now.1) (it.edits c.args.input.now.1) c.args.screens.now in
    let drawable = subst IsDrawable c.into_session-session.ensures.value c.into_session-session.ensures.drawable in
    rw (p.1, p.2) (headline-err c.args.self a a drawable c.args.self c.in_err-frame.field-0.0 refl (undrawn-fails c.in_err-frame.field-0.0 c.args.self a c.in_err-frame.ensures.err))

pub returns-in_err-run_to_end-clause-headline : goal.returns-in_err-run_to_end-clause-headline
returns-in_err-run_to_end-clause-headline g c =
    let p = err_from_is_err_and c.from_residual-in_err-run_to_end.result c.from_residual-in_err-run_to_end.ensures.1 in
    let it = (goal.RecordInput-dyn g c.args.input.now) in
    let a = setting (it.kind c.args.input.now.1) (it.reads c.args.input.now.1) (it.edits c.args.input.now.1) c.args.screens.now in
    let drawable = subst IsDrawable c.into_session-session.ensures.value c.into_session-session.ensures.drawable in
    rw (p.1, p.2) (headline-err c.args.self a _ drawable _ c.in_err-run_to_end.field-0.0 c.into_session-session.ensures.value c.in_err-run_to_end.ensures.err)

pub returns-clause-headline : goal.returns-clause-headline
returns-clause-headline g c =
    let it = (goal.RecordInput-dyn g c.args.input.now) in
    let a = setting (it.kind c.args.input.now.1) (it.reads c.args.input.now.1) (it.edits c.args.input.now.1) c.args.screens.now in
    let drawable = subst IsDrawable c.into_session-session.ensures.value c.into_session-session.ensures.drawable in
    headline-ok c.args.self a _ drawable _ c.into_state.result _ c.into_session-session.ensures.value (sym c.into_state.ensures) c.in_ok-run_to_end.ensures.ok (returns-clause-kept g c)
