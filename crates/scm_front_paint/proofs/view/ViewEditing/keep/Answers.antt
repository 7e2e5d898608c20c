use Rattle.std.proofs.lemmas.Result.{IfOk-weaker, err_from_is_err_and}
use Rattle.scm_front_paint.proofs.ViewLemmas.{keeps-at, keep-fails-at}
use Rattle.scm_front_paint.proofs.view.ViewEditing.keep.Goals as goal

pub returns-in_err-turn-clause-err : goal.returns-in_err-turn-clause-err
returns-in_err-turn-clause-err c =
    let p = err_from_is_err_and c.from_residual.result c.from_residual.ensures.1 in
    rw (p.1, p.2) (keep-fails-at _ c.args.self _ c.self.view_is c.in_err-turn.ensures.err)

pub returns-clause-ok : goal.returns-clause-ok
returns-clause-ok c =
    IfOk-weaker c.shown.result _ _ (λ turn shown. keeps-at _ c.args.self c.in_ok-turn.turn turn c.self.view_is c.in_ok-turn.ensures.ok c.in_ok-turn.ensures.kept shown) c.shown.ensures.ok
