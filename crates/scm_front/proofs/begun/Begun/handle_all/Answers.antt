use Rattle.std.proofs.Common.{subst, sym}
use Rattle.scm_record.specs.Live.{Live}
use Rattle.scm_record.specs.LiveCalls.{BatchLeads}
use Rattle.scm_record.specs.declared.live.Turn.{Turn}
use Rattle.scm_front.proofs.LoggingLemmas.{logs-by-batch}
use Rattle.scm_front.proofs.begun.Begun.handle_all.Goals as goal

pub begun_turn-requires : goal.begun_turn-requires
begun_turn-requires c =
    logs-by-batch c.self.inside.live c.args.events.now c.in_ok-turn.turn c.self.inside.logging c.after_call-logging.result c.batch_of-call.result c.self.invariant
    c.in_ok-turn.ensures.ok c.batch_of-call.ensures c.after_call-logging.ensures

pub returns-clause-ok : goal.returns-clause-ok
returns-clause-ok c =
    let led = subst (λ (l : Live). BatchLeads l c.args.events.now c.in_ok-turn.turn) c.self.view_is c.in_ok-turn.ensures.ok in
    subst (λ (t : Turn). BatchLeads c.args.self c.args.events.now t) (sym c.begun_turn.ensures) led
