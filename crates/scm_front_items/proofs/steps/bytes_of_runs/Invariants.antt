use Rattle.std.proofs.Common.{◌≡◌, ◌+◌, ◌-◌, ◌^◌, ◌≤◌, drop, min}
use Rattle.std.specs.Prelude.{sum_by}
use Rattle.scm_front_items.specs.Runs.{run_bytes}
use Rattle.scm_front_items.specs.Steps.{bytes_of_runs}
use Rattle.scm_front_items.proofs.steps.bytes_of_runs.Given as goal

-- the bytes so far and those of the runs that are left are all
abbrev pub invariant-loop-run : goal.invariant-loop-run
invariant-loop-run l =
    (min (l.bytes + sum_by run_bytes (drop l.run-index l.runs)) (2 ^ 64 - 1) ≡ bytes_of_runs l.runs) × (l.bytes ≤ 2 ^ 64 - 1)
