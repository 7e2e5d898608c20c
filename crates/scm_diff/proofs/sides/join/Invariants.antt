use Rattle.std.proofs.Common.{◌≡◌, drop}
use Rattle.std.specs.List.{flat_map}
use Rattle.scm_types.specs.Split.{section_lines}
use Rattle.scm_diff.specs.Sides.{nothing_yet, with_lines}
use Rattle.scm_diff.proofs.sides.join.Given as goal

abbrev pub invariant-loop-section : goal.invariant-loop-section
invariant-loop-section l = with_lines l.joiner (flat_map (section_lines l.selected) (drop l.section-index l.sections)) ≡ with_lines nothing_yet (flat_map (section_lines l.selected) l.sections)
