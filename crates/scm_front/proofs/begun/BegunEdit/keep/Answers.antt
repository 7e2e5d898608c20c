use Rattle.std.proofs.Common.{subst, sym}
use Rattle.scm_record.specs.Session.{message_text}
use Rattle.scm_record.specs.Live.{LiveEdit}
use Rattle.scm_record.specs.LiveCalls.{MessageLeads}
use Rattle.scm_record.specs.declared.live.Turn.{Turn}
use Rattle.scm_front.proofs.LoggingLemmas.{logs-by-message}
use Rattle.scm_front.proofs.begun.BegunEdit.keep.Goals as goal

pub begun_turn-requires : goal.begun_turn-requires
begun_turn-requires c =
    logs-by-message c.self.inside.editing c.message.result.now (message_text c.self.inside.editing.session c.self.inside.editing.commit) c.in_ok-turn.turn
    c.self.inside.logging c.after_call-logging.result c.message_of-call.result c.message.ensures.text c.self.invariant c.in_ok-turn.ensures.ok c.message_of-call.ensures
    c.after_call-logging.ensures

pub returns-clause-ok : goal.returns-clause-ok
returns-clause-ok c =
    let led = subst (λ (a : LiveEdit). MessageLeads a (message_text a.session a.commit) c.in_ok-turn.turn) c.self.view_is c.in_ok-turn.ensures.ok in
    subst (λ (t : Turn). MessageLeads c.args.self (message_text c.args.self.session c.args.self.commit) t) (sym c.begun_turn.ensures) led
