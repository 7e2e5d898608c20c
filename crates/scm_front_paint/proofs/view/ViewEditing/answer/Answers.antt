use Rattle.std.proofs.lemmas.Result.{IfOk-weaker, err_from_is_err_and}
use Rattle.scm_front_paint.proofs.ViewLemmas.{says-at, say-fails-at}
use Rattle.scm_front_paint.proofs.view.ViewEditing.answer.Goals as goal

pub returns-in_err-turn-clause-err : goal.returns-in_err-turn-clause-err
returns-in_err-turn-clause-err c =
    let p = err_from_is_err_and c.from_residual.result c.from_residual.ensures.1 in
    rw (p.1, p.2) (say-fails-at _ c.args.self _ _ c.self.view_is c.in_err-turn.ensures.err)

pub returns-clause-ok : goal.returns-clause-ok
returns-clause-ok c =
    IfOk-weaker c.shown.result _ _ (λ turn shown. says-at _ c.args.self _ c.in_ok-turn.turn turn c.self.view_is c.in_ok-turn.ensures.ok c.in_ok-turn.ensures.kept shown) c.shown.ensures.ok
