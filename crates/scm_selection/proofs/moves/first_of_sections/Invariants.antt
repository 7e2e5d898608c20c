use Rattle.std.proofs.Common.{◌≡◌, drop}
use Rattle.std.specs.Prelude.{find}
use Rattle.scm_selection.specs.KeySet.{has_key}
use Rattle.scm_selection.specs.KeyLists.{sections_keys}
use Rattle.scm_selection.specs.KeysAround.{is_stop}
use Rattle.scm_selection.proofs.moves.first_of_sections.Given as goal

-- what was passed has no stop
abbrev pub invariant-loop-index : goal.invariant-loop-index
invariant-loop-index l = find (is_stop l.reach (has_key l.expanded)) (sections_keys l.file l.index (drop l.index l.sections)) ≡ find (is_stop l.reach (has_key l.expanded)) (sections_keys l.file l.from (drop l.from l.sections))
