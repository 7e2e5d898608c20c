use Rattle.std.proofs.Common.{drop}
use Rattle.scm_front.proofs.PressLemmas.{Goes}
use Rattle.scm_front.proofs.presses.press_each.Given as goal

-- what comes of the rest of the events comes of all
abbrev pub invariant-loop-event : goal.invariant-loop-event
invariant-loop-event l = Goes l.initial.session l.events l.session (drop l.event-index l.events)
