use Rattle.std.proofs.Common.{List, refl, subst}
use Rattle.std.proofs.lemmas.Result.{IfErr-weaker, err_from_is_err_and}
use Rattle.scm_input.specs.declared.terminal.TerminalEvent.{TerminalEvent}
use Rattle.scm_front_paint.specs.Views.{ViewFails, bytes_failed, bytes_refused}
use Rattle.scm_front_paint.proofs.view.View.typed.Goals as goal

pub returns-in_err-found-clause-err : goal.returns-in_err-found-clause-err
returns-in_err-found-clause-err c =
    let p = err_from_is_err_and c.from_residual.result c.from_residual.ensures.1 in
    rw (p.1, p.2) (bytes_refused refl)

pub returns-clause-err : goal.returns-clause-err
returns-clause-err c =
    IfErr-weaker c.hear_all.result _ _ (λ error h. bytes_failed c.in_ok-found.found.items c.in_ok-found.ensures.ok
    (subst (λ (events : List TerminalEvent). ViewFails c.args.self events error) c.as_slice.ensures.value h))
    c.hear_all.ensures.err
