use Rattle.std.proofs.Common.{subst, sym}
use Rattle.std.specs.Prelude.{string_bytes}
use Rattle.scm_record.specs.Live.{LiveEdit}
use Rattle.scm_record.specs.LiveCalls.{MessageLeads}
use Rattle.scm_record.specs.declared.live.Turn.{Turn}
use Rattle.scm_front.proofs.LoggingLemmas.{logs-by-message}
use Rattle.scm_front.proofs.begun.BegunEdit.answer.Goals as goal

pub begun_turn-requires : goal.begun_turn-requires
begun_turn-requires c =
    logs-by-message c.self.inside.editing c.as_str.result.now (string_bytes c.args.text) c.in_ok-turn.turn c.self.inside.logging c.after_call-logging.result
    c.message_of-call.result c.as_str.ensures.value c.self.invariant c.in_ok-turn.ensures.ok c.message_of-call.ensures c.after_call-logging.ensures

pub returns-clause-ok : goal.returns-clause-ok
returns-clause-ok c =
    let led = subst (λ (a : LiveEdit). MessageLeads a (string_bytes c.args.text) c.in_ok-turn.turn) c.self.view_is c.in_ok-turn.ensures.ok in
    subst (λ (t : Turn). MessageLeads c.args.self (string_bytes c.args.text) t) (sym c.begun_turn.ensures) led
