use Rattle.std.proofs.Common.{◌≡◌, ◌++◌, drop, map}
use Rattle.scm_layout.specs.Counts.{file_counts}
use Rattle.scm_layout.proofs.state_counts.StateCounts.new.Given as goal

-- the counts so far and those of the files that are left are all
abbrev pub invariant-loop-file : goal.invariant-loop-file
invariant-loop-file l = l.counts.items ++ map file_counts (drop l.file-index l.files) ≡ map file_counts l.files
