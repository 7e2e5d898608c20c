use Rattle.std.proofs.Common.{subst, sym}
use Rattle.scm_record.specs.declared.live.Turn.{Turn}
use Rattle.scm_front.specs.Driving.{turn_of}
use Rattle.scm_front.specs.Presses.{PressesLead}
use Rattle.scm_front.proofs.DoLemmas.{remembers-in}
use Rattle.scm_front.proofs.RememberLemmas.{presses-remember}
use Rattle.scm_front.proofs.layer.Front.press_all.Goals as goal

pub returns-clause-ok : goal.returns-clause-ok
returns-clause-ok c =
    subst (λ (turn : Turn). PressesLead c.args.self.beneath c.args.events.now turn) (sym c.front_turn.ensures.beneath) c.in_ok-turn.ensures.ok

pub returns-clause-remembers : goal.returns-clause-remembers
returns-clause-remembers c =
    let f = c.args.self in
    let turn = turn_of c.in_ok-turn.turn in
    let before = c.runs_before_all-before in
    remembers-in _ f.kept.history turn _ c.recorded-kept.result c.front_turn.result c.front_turn.ensures.value
    (presses-remember f.beneath c.args.events.now turn f.kept.history c.recorded-kept.result.history before.result before.ensures.calm before.ensures.taken
    c.in_ok-turn.ensures.ok c.recorded-kept.ensures.history)
