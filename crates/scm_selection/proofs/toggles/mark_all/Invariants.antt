use Rattle.std.proofs.Common.{◌≡◌, map, take, drop, ◌++◌}
use Rattle.scm_types.specs.Marks.{file_with_marks}
use Rattle.scm_selection.proofs.toggles.mark_all.Given as goal

-- the files so far are done
abbrev pub invariant-loop-file : goal.invariant-loop-file
invariant-loop-file l = l.files ≡ map (file_with_marks (λ _. l.checked)) (take l.file-index l.initial.files) ++ drop l.file-index l.initial.files
