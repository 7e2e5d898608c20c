use Rattle.std.proofs.Common.{◌≡◌, take}
use Rattle.std.specs.List.{flat_map}
use Rattle.scm_types.specs.Marks.{section_marks}
use Rattle.scm_types.specs.Seen.{with_marks, none_seen}
use Rattle.scm_types.proofs.file.File.tristate.Given as goal

abbrev pub invariant-loop-section : goal.invariant-loop-section
invariant-loop-section l = l.seen ≡ with_marks none_seen (flat_map section_marks (take l.section-index l.section-items))
