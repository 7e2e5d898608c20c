use Rattle.std.proofs.Common.{◌≡◌, subst}
use Rattle.std.proofs.lemmas.Result.{IfErr-weaker}
use Rattle.std.specs.Prelude.{IfOk}
use Rattle.scm_input.specs.declared.events.Event.{Event}
use Rattle.scm_record.specs.LiveCalls.{EventFails, EventLeads}
use Rattle.scm_front.specs.Driving.{turn_of}
use Rattle.scm_front.specs.Scrolling.{event_towards}
use Rattle.scm_front.proofs.ScrollLemmas.{event-is, scroll-memory}
use Rattle.scm_front.proofs.scrolling.scroll_once.Goals as goal

is : (c : goal.After-handle) → c.scroll_event-event.result ≡ event_towards c.args.session c.args.to
is c =
    event-is c.live-live.result.now c.args.session c.args.to c.rows_of.result c.scroll.result c.kind.result c.scroll_event-event.result
    c.live-live.ensures.value c.kind.ensures c.rows_of.ensures c.scroll.ensures c.scroll_event-event.ensures

pub returns-clause-ok : goal.returns-clause-ok
returns-clause-ok c =
    subst (λ (event : Event). IfOk c.handle.result (λ turn. EventLeads c.args.session event (turn_of turn))) (is c) c.handle.ensures.ok

pub returns-clause-err : goal.returns-clause-err
returns-clause-err c =
    IfErr-weaker c.handle.result _ _ (λ error h.
    scroll-memory c.args.session c.args.to error c.live-live.ensures.calm (subst (λ (event : Event). EventFails c.args.session event error) (is c) h))
    c.handle.ensures.err
