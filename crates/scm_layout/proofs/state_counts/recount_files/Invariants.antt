use Rattle.std.proofs.Common.{◌≡◌, take}
use Rattle.scm_types.specs.declared.file.File.{File}
use Rattle.scm_layout.specs.declared.file_counts.FileCounts.{FileCounts}
use Rattle.scm_layout.specs.Counts.{file_counts}
use Rattle.scm_layout.specs.Recounts.{zipped}
use Rattle.scm_layout.proofs.state_counts.recount_files.Given as goal

-- the files so far are counted
abbrev pub invariant-loop-index : goal.invariant-loop-index
invariant-loop-index l = l.counts ≡ zipped (λ (c : FileCounts) (f : File). file_counts f) l.fn.counts (take l.index l.files)
