use Rattle.std.proofs.Common.{◌≡◌, ◌++◌, drop, map}
use Rattle.scm_types.specs.Marks.{is_editable_section}
use Rattle.scm_selection.proofs.key_flags.flags_of_sections.Given as goal

-- the flags so far and those of the sections that are left are all
abbrev pub invariant-loop-section : goal.invariant-loop-section
invariant-loop-section l = l.flags.items ++ map is_editable_section (drop l.section-index l.sections) ≡ map is_editable_section l.sections
