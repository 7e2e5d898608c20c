use Rattle.std.proofs.Common.{◌≡◌, ◌++◌, drop, map}
use Rattle.scm_selection.specs.KeyFlags.{flags_of}
use Rattle.scm_selection.proofs.key_flags.flags_of_files.Given as goal

-- the flags so far and those of the files that are left are all
abbrev pub invariant-loop-file : goal.invariant-loop-file
invariant-loop-file l = l.flags.items ++ map (flags_of l.is_set) (drop l.file-index l.files) ≡ map (flags_of l.is_set) l.files
