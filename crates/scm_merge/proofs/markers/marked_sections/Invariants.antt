use Rattle.std.proofs.Common.{◌≡◌, ◌++◌, drop}
use Rattle.scm_merge.specs.Markers.{marked_sections}
use Rattle.scm_merge.proofs.markers.marked_sections.Given as goal

abbrev pub invariant-loop-index : goal.invariant-loop-index
invariant-loop-index l =
    l.copies.items ++ marked_sections l.style l.labels (drop l.index l.roles) (drop l.index l.sections) ≡ marked_sections l.style l.labels l.roles l.sections
