use Rattle.std.proofs.Common.{◌≡◌, ◌==◌, drop, length}
use Rattle.std.specs.List.{flat_map}
use Rattle.scm_types.specs.Marks.{section_marks}
use Rattle.scm_embed.proofs.marked.have_items.Given as goal

-- the sections to come have the items that are left exactly if all have all
abbrev pub invariant-loop-section : goal.invariant-loop-section
invariant-loop-section l = (length (flat_map section_marks (drop l.section-index l.sections)) == l.left) ≡ (length (flat_map section_marks l.sections) == l.fn.count)
