use Rattle.std.proofs.Common.{◌≡◌, drop, true, false}
use Rattle.std.specs.List.{flat_map}
use Rattle.scm_types.specs.Joined.{text_of_lines, with_lines}
use Rattle.scm_types.specs.Split.{section_lines}
use Rattle.scm_types.proofs.side_text.join_sides.Given as goal

abbrev pub invariant-loop-section : goal.invariant-loop-section
invariant-loop-section l = record {
  selected : with_lines l.selected (flat_map (section_lines true) (drop l.section-index l.sections)) ≡ text_of_lines (flat_map (section_lines true) l.sections);
  unselected : with_lines l.unselected (flat_map (section_lines false) (drop l.section-index l.sections)) ≡ text_of_lines (flat_map (section_lines false) l.sections);
}
