use Rattle.std.proofs.Common.{drop}
use Rattle.scm_front_paint.proofs.ViewLemmas.{Hearing}
use Rattle.scm_front_paint.proofs.view.View.hear_all.Given as goal

-- what comes of the rest of the events comes of all
abbrev pub invariant-loop-event : goal.invariant-loop-event
invariant-loop-event l = Hearing l.fn.self l.events l.view (drop l.event-index l.events)
