use Rattle.std.proofs.Common.{◌≡◌, true, map, take}
use Rattle.scm_selection.specs.KeyFlags.{flags_of}
use Rattle.scm_selection.proofs.key_flags.are_files_set.Given as goal

-- the flags so far are those of their files
abbrev pub invariant-loop-index : goal.invariant-loop-index
invariant-loop-index l = take l.index l.flags ≡ map (flags_of true) (take l.index l.files)
