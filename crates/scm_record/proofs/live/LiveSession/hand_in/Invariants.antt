use Rattle.std.proofs.Common.{drop}
use Rattle.scm_record.proofs.TypedLemmas.{Goes}
use Rattle.scm_record.proofs.live.LiveSession.hand_in.Given as goal

-- what comes of the rest of the events comes of all
abbrev pub invariant-loop-event : goal.invariant-loop-event
invariant-loop-event l = Goes l.fn.self l.events l.session (drop l.event-index l.events)
