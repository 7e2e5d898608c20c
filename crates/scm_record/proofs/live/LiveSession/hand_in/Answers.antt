use Rattle.std.proofs.Common.{refl, subst}
use Rattle.std.proofs.lemmas.Result.{err_from_is_err_and}
use Rattle.scm_input.specs.declared.events.Event.{Event}
use Rattle.scm_record.specs.LiveCalls.{EventLeads, EventFails}
use Rattle.scm_record.specs.declared.live.Turn.{Turn}
use Rattle.scm_record.specs.declared.live.Turn.TheVariants.{Waiting, Editing, Accepted}
use Rattle.scm_record.proofs.TypedLemmas.{goes-first, goes-next, goes-last, goes-wrong, goes-end}
use Rattle.scm_record.proofs.live.LiveSession.hand_in.Goals as goal

pub loop-event-init : goal.loop-event-init
loop-event-init c = goes-first _ _

pub returns-in_err-next-clause-err : goal.returns-in_err-next-clause-err
returns-in_err-next-clause-err c =
    let p = err_from_is_err_and c.from_residual.result c.from_residual.ensures.1 in
    let fails = subst (λ (event : Event). EventFails c.loop-event.session event c.in_err-next.field-0.0) c.from.ensures c.in_err-next.ensures.err in
    rw (p.1, p.2) (goes-wrong c.args.self c.loop-event.session c.args.events.now c.loop-event.event-index _ c.loop-event-test.true c.loop-event.invariant _ fails)

-- what the event at this place leads to
pub loop-event-preserved : goal.loop-event-preserved
loop-event-preserved c =
    let turn = subst (λ (turn : Turn). EventLeads c.loop-event.session c.from.result turn) c.in-Waiting.is c.in_ok-next.ensures.ok in
    let leads = subst (λ (event : Event). EventLeads c.loop-event.session event (Waiting c.in-Waiting.next)) c.from.ensures turn in
    goes-next c.args.self c.loop-event.session c.args.events.now c.loop-event.event-index _ c.loop-event-test.true c.loop-event.invariant c.in-Waiting.next leads

pub returns-in-Editing-clause-ok : goal.returns-in-Editing-clause-ok
returns-in-Editing-clause-ok c =
    let turn = subst (λ (turn : Turn). EventLeads c.loop-event.session c.from.result turn) c.in-Editing.is c.in_ok-next.ensures.ok in
    let leads = subst (λ (event : Event). EventLeads c.loop-event.session event (Editing c.in-Editing.editing)) c.from.ensures turn in
    goes-last c.args.self c.loop-event.session c.args.events.now c.loop-event.event-index _ c.loop-event-test.true c.loop-event.invariant (Editing c.in-Editing.editing) leads refl

pub returns-in-Accepted-clause-ok : goal.returns-in-Accepted-clause-ok
returns-in-Accepted-clause-ok c =
    let turn = subst (λ (turn : Turn). EventLeads c.loop-event.session c.from.result turn) c.in-Accepted.is c.in_ok-next.ensures.ok in
    let leads = subst (λ (event : Event). EventLeads c.loop-event.session event (Accepted c.in-Accepted.state)) c.from.ensures turn in
    goes-last c.args.self c.loop-event.session c.args.events.now c.loop-event.event-index _ c.loop-event-test.true c.loop-event.invariant (Accepted c.in-Accepted.state) leads refl

pub returns-clause-ok : goal.returns-clause-ok
returns-clause-ok c =
    goes-end c.args.self c.loop-event.session c.args.events.now c.loop-event.event-index c.loop-event-test.false c.loop-event.invariant
