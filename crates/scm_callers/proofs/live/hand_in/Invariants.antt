use Rattle.std.proofs.Common.{List}
use Rattle.scm_record.specs.LiveCalls.{Call, Path}
use Rattle.scm_record.specs.declared.live.Turn.TheVariants.{Waiting}
use Rattle.scm_callers.proofs.live.hand_in.Given as goal

-- the calls so far lead here
abbrev pub invariant-loop-event : goal.invariant-loop-event
invariant-loop-event l = (calls : List Call) × Path (Waiting l.initial.session) calls (Waiting l.session)
