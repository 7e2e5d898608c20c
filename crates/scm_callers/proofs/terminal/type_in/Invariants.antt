use Rattle.std.proofs.Common.{List}
use Rattle.scm_record.specs.LiveCalls.{Call, Path}
use Rattle.scm_record.specs.declared.live.Turn.TheVariants.{Waiting}
use Rattle.scm_callers.proofs.terminal.type_in.Given as goal

-- the calls so far lead here
abbrev pub invariant-loop-chunk : goal.invariant-loop-chunk
invariant-loop-chunk l = (calls : List Call) × Path (Waiting l.initial.session) calls (Waiting l.session)
