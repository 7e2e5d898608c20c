use Rattle.std.proofs.Common.{sym, subst}
use Rattle.std.specs.Prelude.{string_bytes}
use Rattle.scm_record.specs.LiveCalls.{MessageLeads}
use Rattle.scm_record.specs.declared.live.Turn.{Turn}
use Rattle.scm_front.proofs.layer.FrontEditing.answer.Goals as goal

pub returns-clause-ok : goal.returns-clause-ok
returns-clause-ok c =
    subst (λ (turn : Turn). MessageLeads c.args.self.beneath (string_bytes c.args.text) turn) (sym c.front_turn.ensures.beneath) c.in_ok-turn.ensures.ok
