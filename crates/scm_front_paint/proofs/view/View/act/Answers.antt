use Rattle.std.proofs.lemmas.Result.{IfOk-weaker, IfErr-weaker}
use Rattle.scm_front_paint.proofs.ViewLemmas.{shows-at, hands-at, fails-at}
use Rattle.scm_front_paint.proofs.view.View.act.Goals as goal

pub returns-in-Show-clause-ok : goal.returns-in-Show-clause-ok
returns-in-Show-clause-ok c =
    IfOk-weaker c.show_from.result _ _ (λ turn g. shows-at _ c.args.self c.args.heard c.in-Show.x turn c.self.view_is c.in-Show.is g) c.show_from.ensures.ok

pub returns-in-Hand-clause-ok : goal.returns-in-Hand-clause-ok
returns-in-Hand-clause-ok c =
    IfOk-weaker c.hand.result _ _ (λ turn g. hands-at _ c.args.self c.args.heard c.in-Hand.event turn c.self.view_is c.in-Hand.is g) c.hand.ensures.ok

pub returns-in-Hand-clause-err : goal.returns-in-Hand-clause-err
returns-in-Hand-clause-err c = IfErr-weaker c.hand.result _ _ (λ error g. fails-at _ c.args.self c.args.heard c.in-Hand.event error c.self.view_is c.in-Hand.is g) c.hand.ensures.err
