use Rattle.std.proofs.Common.{◌≡◌, ◌++◌, drop, map, take}
use Rattle.scm_rows.specs.Heights.{shape_of}
use Rattle.scm_layout.proofs.section_stack.fill_shapes.Given as goal

-- the shapes so far and those of the sections that are left are all
abbrev pub invariant-loop-index : goal.invariant-loop-index
invariant-loop-index l = take l.index l.shapes ++ map shape_of (drop l.index l.sections) ≡ map shape_of l.sections
