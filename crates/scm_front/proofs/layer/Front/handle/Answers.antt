use Rattle.std.proofs.Common.{ap, subst, sym, ◌∙◌}
use Rattle.scm_record.specs.LiveCalls.{EventLeads}
use Rattle.scm_record.specs.declared.live.Turn.{Turn}
use Rattle.scm_front.specs.Driving.{turn_of}
use Rattle.scm_front.specs.Fronts.{beneath_of}
use Rattle.scm_front.proofs.DoLemmas.{passed}
use Rattle.scm_front.proofs.FrontLemmas.{beneath-is}
use Rattle.scm_front.proofs.RememberLemmas.{event-remembers}
use Rattle.scm_front.proofs.layer.Front.handle.Goals as goal

pub returns-clause-ok : goal.returns-clause-ok
returns-clause-ok c =
    let f = c.args.self in
    let turn = turn_of c.in_ok-turn.turn in
    let before = c.runs_before-before in
    passed f c.args.event turn before.result c.word_after-word.result c.handed.result c.word_after-word.ensures c.handed.ensures c.in_ok-turn.ensures.ok
    (event-remembers f.beneath c.args.event turn f.kept.history c.handed.ensures.new.history before.result before.ensures.calm before.ensures.taken
    c.in_ok-turn.ensures.ok c.handed.ensures.records)

pub returns-clause-leads : goal.returns-clause-leads
returns-clause-leads c =
    let turn = turn_of c.in_ok-turn.turn in
    subst (λ (t : Turn). EventLeads c.args.self.beneath c.args.event t) (beneath-is turn _ c.handed.ensures.new ∙ ap beneath_of (sym c.handed.ensures.is)) c.in_ok-turn.ensures.ok
