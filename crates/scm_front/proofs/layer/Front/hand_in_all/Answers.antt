use Rattle.std.proofs.Common.{ap, subst, sym, ◌∙◌}
use Rattle.scm_record.specs.LiveCalls.{BatchLeads}
use Rattle.scm_record.specs.declared.live.Turn.{Turn}
use Rattle.scm_front.specs.Driving.{turn_of}
use Rattle.scm_front.specs.Fronts.{beneath_of}
use Rattle.scm_front.proofs.DoLemmas.{is-given}
use Rattle.scm_front.proofs.FrontLemmas.{beneath-is}
use Rattle.scm_front.proofs.RememberLemmas.{batch-begins-anew}
use Rattle.scm_front.proofs.layer.Front.hand_in_all.Goals as goal

pub returns-clause-ok : goal.returns-clause-ok
returns-clause-ok c =
    let turn = turn_of c.in_ok-turn.turn in
    subst (λ (t : Turn). BatchLeads c.args.self.beneath c.args.events.now t) (beneath-is turn _ c.handed.ensures.new ∙ ap beneath_of (sym c.handed.ensures.is)) c.in_ok-turn.ensures.ok

pub returns-clause-given : goal.returns-clause-given
returns-clause-given c =
    let f = c.args.self in
    let turn = turn_of c.in_ok-turn.turn in
    let before = c.runs_before_all-before in
    is-given f turn before.result c.handed.result c.handed.ensures
    (batch-begins-anew f.beneath c.args.events.now turn f.kept.history c.handed.ensures.new.history before.result before.ensures.calm before.ensures.taken
    c.in_ok-turn.ensures.ok c.handed.ensures.records)
