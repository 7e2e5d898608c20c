use Rattle.std.proofs.Common.{refl, ap}
use Rattle.std.proofs.lemmas.Result.{err_from_is_err_and}
use Rattle.scm_record.specs.declared.live.Turn.TheVariants.{Editing, Accepted}
use Rattle.scm_front.specs.Driving.{turn_of}
use Rattle.scm_front.proofs.PressLemmas.{goes-first, goes-on-by, goes-last-by, goes-wrong, goes-end}
use Rattle.scm_front.proofs.presses.press_each.Goals as goal

pub loop-event-init : goal.loop-event-init
loop-event-init c = goes-first _ _

pub returns-in_err-next-clause-err : goal.returns-in_err-next-clause-err
returns-in_err-next-clause-err c =
    let p = err_from_is_err_and c.from_residual.result c.from_residual.ensures.1 in
    rw (p.1, p.2) (goes-wrong c.args.session c.loop-event.session c.args.events.now c.loop-event.event-index _ c.loop-event-test.true c.loop-event.invariant _ c.in_err-next.ensures.err)

pub loop-event-preserved : goal.loop-event-preserved
loop-event-preserved c =
    goes-on-by c.args.session c.loop-event.session c.args.events.now c.loop-event.event-index _ c.loop-event-test.true c.loop-event.invariant _ c.in-Waiting.next (ap turn_of c.in-Waiting.is) c.in_ok-next.ensures.ok

pub returns-in-Editing-clause-ok : goal.returns-in-Editing-clause-ok
returns-in-Editing-clause-ok c =
    goes-last-by c.args.session c.loop-event.session c.args.events.now c.loop-event.event-index _ c.loop-event-test.true c.loop-event.invariant _ (Editing c.in-Editing.editing) (ap turn_of c.in-Editing.is) c.in_ok-next.ensures.ok refl

pub returns-in-Accepted-clause-ok : goal.returns-in-Accepted-clause-ok
returns-in-Accepted-clause-ok c =
    goes-last-by c.args.session c.loop-event.session c.args.events.now c.loop-event.event-index _ c.loop-event-test.true c.loop-event.invariant _ (Accepted c.in-Accepted.state) (ap turn_of c.in-Accepted.is) c.in_ok-next.ensures.ok refl

pub returns-clause-ok : goal.returns-clause-ok
returns-clause-ok c =
    goes-end c.args.session c.loop-event.session c.args.events.now c.loop-event.event-index c.loop-event-test.false c.loop-event.invariant
