use Rattle.std.proofs.Common.{◌≡◌, take}
use Rattle.std.specs.List.{flat_map}
use Rattle.scm_merge.specs.Style.{texts_of}
use Rattle.scm_merge.proofs.style.all_texts.Given as goal

abbrev pub invariant-loop-section : goal.invariant-loop-section
invariant-loop-section l = l.texts.items ≡ flat_map texts_of (take l.section-index l.sections)
