use Rattle.std.proofs.Common.{◌≡◌, ◌-◌, take}
use Rattle.scm_selection.specs.KeySet.{has_key}
use Rattle.scm_selection.specs.KeyLists.{files_keys}
use Rattle.scm_selection.specs.KeysAround.{is_stop, find_last}
use Rattle.scm_selection.proofs.moves.last_of_files.Given as goal

-- what was passed has no stop
abbrev pub invariant-loop-step : goal.invariant-loop-step
invariant-loop-step l = find_last (is_stop l.reach (has_key l.expanded)) (files_keys 0 (take (l.end - l.step) l.files)) ≡ find_last (is_stop l.reach (has_key l.expanded)) (files_keys 0 (take l.upto l.files))
