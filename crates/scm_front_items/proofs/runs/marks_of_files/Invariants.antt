use Rattle.std.proofs.Common.{◌≡◌, ◌++◌, drop, map}
use Rattle.scm_front_items.specs.Runs.{marks_of_file}
use Rattle.scm_front_items.proofs.runs.marks_of_files.Given as goal

-- the marks so far and those of the files that are left are all
abbrev pub invariant-loop-file : goal.invariant-loop-file
invariant-loop-file l = l.marks ++ map marks_of_file (drop l.file-index l.files) ≡ map marks_of_file l.files
