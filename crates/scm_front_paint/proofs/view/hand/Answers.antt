use Rattle.std.proofs.lemmas.Result.{IfErr-weaker, err_from_is_err_and}
use Rattle.scm_front_paint.specs.Views.{hand_failed, hand_refused}
use Rattle.scm_front_paint.proofs.view.hand.Goals as goal

pub returns-in_err-turn-clause-err : goal.returns-in_err-turn-clause-err
returns-in_err-turn-clause-err c =
    let p = err_from_is_err_and c.from_residual.result c.from_residual.ensures.1 in
    rw (p.1, p.2) (hand_failed c.in_err-turn.ensures.err)

pub returns-clause-err : goal.returns-clause-err
returns-clause-err c = IfErr-weaker c.shown.result _ _ (λ error e. hand_refused e) c.shown.ensures.err
