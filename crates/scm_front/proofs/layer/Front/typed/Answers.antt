use Rattle.std.proofs.Common.{List, subst}
use Rattle.std.proofs.lemmas.Result.{err_from_is_err_and, IfErr-weaker}
use Rattle.scm_input.specs.declared.terminal.TerminalEvent.{TerminalEvent}
use Rattle.scm_front.specs.Fronts.{KeysFail, bytes_failed, bytes_refused}
use Rattle.scm_front.proofs.layer.Front.typed.Goals as goal

pub returns-in_err-found-clause-err : goal.returns-in_err-found-clause-err
returns-in_err-found-clause-err c =
    let p = err_from_is_err_and c.from_residual.result c.from_residual.ensures.1 in
    rw (p.1, p.2) (bytes_refused c.in_err-found.ensures.err)

pub returns-clause-err : goal.returns-clause-err
returns-clause-err c =
    IfErr-weaker c.hear_all.result _ _ (λ error h. bytes_failed c.in_ok-found.found.items c.in_ok-found.ensures.ok
    (subst (λ (keys : List TerminalEvent). KeysFail c.args.self keys error) c.as_slice.ensures.value h)) c.hear_all.ensures.err
