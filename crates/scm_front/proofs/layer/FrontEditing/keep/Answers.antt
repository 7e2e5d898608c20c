use Rattle.std.proofs.Common.{sym, subst}
use Rattle.scm_record.specs.Session.{message_text}
use Rattle.scm_record.specs.LiveCalls.{MessageLeads}
use Rattle.scm_record.specs.declared.live.Turn.{Turn}
use Rattle.scm_front.proofs.layer.FrontEditing.keep.Goals as goal

pub returns-clause-ok : goal.returns-clause-ok
returns-clause-ok c =
    subst (λ (turn : Turn). MessageLeads c.args.self.beneath (message_text c.args.self.beneath.session c.args.self.beneath.commit) turn) (sym c.front_turn.ensures.beneath) c.in_ok-turn.ensures.ok
