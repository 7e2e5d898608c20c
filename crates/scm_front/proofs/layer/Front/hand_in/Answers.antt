use Rattle.std.proofs.Common.{ap, subst, sym, ◌∙◌}
use Rattle.scm_record.specs.LiveCalls.{EventLeads}
use Rattle.scm_record.specs.declared.live.Turn.{Turn}
use Rattle.scm_front.specs.Driving.{turn_of}
use Rattle.scm_front.specs.Fronts.{beneath_of}
use Rattle.scm_front.proofs.DoLemmas.{is-given}
use Rattle.scm_front.proofs.FrontLemmas.{beneath-is}
use Rattle.scm_front.proofs.RememberLemmas.{event-begins-anew}
use Rattle.scm_front.proofs.layer.Front.hand_in.Goals as goal

pub returns-clause-ok : goal.returns-clause-ok
returns-clause-ok c =
    let turn = turn_of c.in_ok-turn.turn in
    subst (λ (t : Turn). EventLeads c.args.self.beneath c.args.event t) (beneath-is turn _ c.handed.ensures.new ∙ ap beneath_of (sym c.handed.ensures.is)) c.in_ok-turn.ensures.ok

pub returns-clause-given : goal.returns-clause-given
returns-clause-given c =
    let f = c.args.self in
    let turn = turn_of c.in_ok-turn.turn in
    let before = c.runs_before-before in
    is-given f turn before.result c.handed.result c.handed.ensures
    (event-begins-anew f.beneath c.args.event turn f.kept.history c.handed.ensures.new.history before.result before.ensures.calm before.ensures.taken
    c.in_ok-turn.ensures.ok c.handed.ensures.records)
