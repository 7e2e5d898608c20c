use Rattle.std.proofs.Common.{◌≡◌, map, take}
use Rattle.scm_types.specs.Marks.{is_editable_section}
use Rattle.scm_selection.proofs.key_flags.are_sections_set.Given as goal

-- the flags so far are those of their sections
abbrev pub invariant-loop-index : goal.invariant-loop-index
invariant-loop-index l = take l.index l.flags ≡ map is_editable_section (take l.index l.sections)
