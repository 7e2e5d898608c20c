use Rattle.std.proofs.Common.{◌≡◌, ◌++◌, drop}
use Rattle.scm_front_items.specs.Steps.{files_runs}
use Rattle.scm_front_items.proofs.steps.runs_of_files.Given as goal

-- the runs so far and those of the files that are left are all
abbrev pub invariant-loop-index : goal.invariant-loop-index
invariant-loop-index l =
    l.runs ++ files_runs l.first l.last l.index (drop l.index l.files) ≡ files_runs l.first l.last 0 l.files
