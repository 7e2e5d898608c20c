use Rattle.std.proofs.Common.{◌≡◌, map, take, drop, ◌++◌}
use Rattle.scm_selection.specs.Toggle.{with_file_inverted}
use Rattle.scm_selection.proofs.toggles.invert_all.Given as goal

-- the files so far are done
abbrev pub invariant-loop-file : goal.invariant-loop-file
invariant-loop-file l = l.files ≡ map with_file_inverted (take l.file-index l.initial.files) ++ drop l.file-index l.initial.files
