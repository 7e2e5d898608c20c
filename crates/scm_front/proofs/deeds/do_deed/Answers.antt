use Rattle.std.proofs.lemmas.Result.{err_from_is_err_and, IfErr-weaker, IfOk-weaker}
use Rattle.scm_front.specs.Driving.{turn_of}
use Rattle.scm_front.proofs.DeedLemmas.{deed-done-by}
use Rattle.scm_front.proofs.StartLemmas.{deed-memory}
use Rattle.scm_front.proofs.deeds.do_deed.Goals as goal

pub returns-in_err-session-clause-err : goal.returns-in_err-session-clause-err
returns-in_err-session-clause-err c = λ due.
    let p = err_from_is_err_and c.from_residual.result c.from_residual.ensures.1 in
    rw (p.1, p.2) c.in_err-session.ensures.err

pub returns-clause-ok : goal.returns-clause-ok
returns-clause-ok c =
    IfOk-weaker c.handle.result _ _ (λ turn g.
    deed-done-by c.args.session c.in_ok-session.session c.args.deed c.key.result c.event_of.result (turn_of turn) c.key.ensures c.event_of.ensures
    c.in_ok-session.ensures.value c.in_ok-session.ensures.leads g)
    c.handle.ensures.ok

pub returns-clause-err : goal.returns-clause-err
returns-clause-err c = λ due.
    IfErr-weaker c.handle.result _ _ (λ error h.
    deed-memory c.args.session c.in_ok-session.session c.args.deed c.key.result c.event_of.result error c.key.ensures c.event_of.ensures
    c.in_ok-session.ensures.value due h)
    c.handle.ensures.err
