use Rattle.std.proofs.Common.{◌≡◌, ◌++◌, drop}
use Rattle.scm_selection.specs.KeyLists.{files_keys}
use Rattle.scm_selection.proofs.key_lists.all_keys.Given as goal

-- the keys so far and those of the files that are left are all
abbrev pub invariant-loop-index : goal.invariant-loop-index
invariant-loop-index l = l.keys.items ++ files_keys l.index (drop l.index l.files) ≡ files_keys 0 l.files
