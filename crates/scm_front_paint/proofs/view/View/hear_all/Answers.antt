use Rattle.std.proofs.Common.{refl}
use Rattle.std.proofs.lemmas.Result.{err_from_is_err_and}
use Rattle.scm_front_paint.specs.declared.view.ViewTurn.TheVariants.{Editing, Accepted}
use Rattle.scm_front_paint.proofs.ViewLemmas.{hearing-first, hearing-on, hearing-last, hearing-end, hearing-wrong}
use Rattle.scm_front_paint.proofs.view.View.hear_all.Goals as goal

pub loop-event-init : goal.loop-event-init
loop-event-init c = hearing-first _ _

pub returns-in_err-next-clause-err : goal.returns-in_err-next-clause-err
returns-in_err-next-clause-err c =
    let p = err_from_is_err_and c.from_residual.result c.from_residual.ensures.1 in
    rw (p.1, p.2) (hearing-wrong c.args.self c.loop-event.view c.args.events.now c.loop-event.event-index _ c.loop-event-test.true c.loop-event.invariant _ c.in_err-next.ensures.err)

pub loop-event-preserved : goal.loop-event-preserved
loop-event-preserved c =
    hearing-on c.args.self c.loop-event.view c.args.events.now c.loop-event.event-index _ c.loop-event-test.true c.loop-event.invariant _ c.in-Waiting.next c.in-Waiting.is c.in_ok-next.ensures.ok

pub returns-in-Editing-clause-ok : goal.returns-in-Editing-clause-ok
returns-in-Editing-clause-ok c =
    hearing-last c.args.self c.loop-event.view c.args.events.now c.loop-event.event-index _ c.loop-event-test.true c.loop-event.invariant _ (Editing c.in-Editing.editing) c.in-Editing.is c.in_ok-next.ensures.ok refl

pub returns-in-Accepted-clause-ok : goal.returns-in-Accepted-clause-ok
returns-in-Accepted-clause-ok c =
    hearing-last c.args.self c.loop-event.view c.args.events.now c.loop-event.event-index _ c.loop-event-test.true c.loop-event.invariant _ (Accepted c.in-Accepted.state) c.in-Accepted.is c.in_ok-next.ensures.ok refl

pub returns-clause-ok : goal.returns-clause-ok
returns-clause-ok c =
    hearing-end c.args.self c.loop-event.view c.args.events.now c.loop-event.event-index c.loop-event-test.false c.loop-event.invariant
