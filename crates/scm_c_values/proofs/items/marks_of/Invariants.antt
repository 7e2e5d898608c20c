use Rattle.std.proofs.Common.{◌≡◌, take}
use Rattle.std.specs.List.{flat_map}
use Rattle.scm_c_values.specs.States.{bytes_of_section}
use Rattle.scm_c_values.proofs.items.marks_of.Given as goal

abbrev pub invariant-loop-section : goal.invariant-loop-section
invariant-loop-section l = l.marks.items ≡ flat_map bytes_of_section (take l.section-index l.section-items)
