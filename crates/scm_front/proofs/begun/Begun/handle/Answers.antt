use Rattle.std.proofs.Common.{subst, sym}
use Rattle.scm_record.specs.Live.{Live}
use Rattle.scm_record.specs.LiveCalls.{EventLeads}
use Rattle.scm_record.specs.declared.live.Turn.{Turn}
use Rattle.scm_front.proofs.LoggingLemmas.{logs-by-event}
use Rattle.scm_front.proofs.begun.Begun.handle.Goals as goal

pub begun_turn-requires : goal.begun_turn-requires
begun_turn-requires c =
    logs-by-event c.self.inside.live c.args.event c.in_ok-turn.turn c.self.inside.logging c.after_call-logging.result c.self.invariant c.in_ok-turn.ensures.ok
    c.after_call-logging.ensures

pub returns-clause-ok : goal.returns-clause-ok
returns-clause-ok c =
    let led = subst (λ (l : Live). EventLeads l c.args.event c.in_ok-turn.turn) c.self.view_is c.in_ok-turn.ensures.ok in
    subst (λ (t : Turn). EventLeads c.args.self c.args.event t) (sym c.begun_turn.ensures) led
