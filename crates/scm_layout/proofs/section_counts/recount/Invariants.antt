use Rattle.std.proofs.Common.{◌≡◌, take}
use Rattle.scm_layout.specs.Recounts.{recounted, zipped}
use Rattle.scm_layout.proofs.section_counts.recount.Given as goal

-- the sections so far are counted
abbrev pub invariant-loop-index : goal.invariant-loop-index
invariant-loop-index l = l.counts ≡ zipped recounted l.fn.counts (take l.index l.sections)
