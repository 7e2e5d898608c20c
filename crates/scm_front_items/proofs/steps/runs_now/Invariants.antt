use Rattle.std.proofs.Common.{◌≡◌, ◌++◌, drop, map}
use Rattle.scm_front_items.specs.Steps.{run_now}
use Rattle.scm_front_items.proofs.steps.runs_now.Given as goal

-- the runs so far and those that are left are all
abbrev pub invariant-loop-run : goal.invariant-loop-run
invariant-loop-run l = l.now ++ map (run_now l.files) (drop l.run-index l.runs) ≡ map (run_now l.files) l.runs
