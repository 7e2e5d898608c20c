use Rattle.std.proofs.Common.{◌≡◌, drop}
use Rattle.std.specs.Prelude.{find}
use Rattle.scm_selection.specs.KeySet.{has_key}
use Rattle.scm_selection.specs.KeyLists.{files_keys}
use Rattle.scm_selection.specs.KeysAround.{is_stop}
use Rattle.scm_selection.proofs.moves.first_of_files.Given as goal

-- what was passed has no stop
abbrev pub invariant-loop-index : goal.invariant-loop-index
invariant-loop-index l = find (is_stop l.reach (has_key l.expanded)) (files_keys l.index (drop l.index l.files)) ≡ find (is_stop l.reach (has_key l.expanded)) (files_keys l.from (drop l.from l.files))
