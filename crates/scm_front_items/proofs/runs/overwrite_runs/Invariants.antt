use Rattle.std.proofs.Common.{◌≡◌, drop, fold}
use Rattle.scm_front_items.specs.Runs.{with_run}
use Rattle.scm_front_items.proofs.runs.overwrite_runs.Given as goal

-- what is left to write leads to the same
abbrev pub invariant-loop-run : goal.invariant-loop-run
invariant-loop-run l = fold with_run l.files (drop l.run-index l.runs) ≡ fold with_run l.fn.files l.runs
