use Rattle.std.proofs.Common.{◌≡◌, take}
use Rattle.scm_layout.specs.Recounts.{remarked, zipped}
use Rattle.scm_layout.proofs.section_counts.remark.Given as goal

-- the sections so far are counted
abbrev pub invariant-loop-index : goal.invariant-loop-index
invariant-loop-index l = l.counts ≡ zipped remarked l.fn.counts (take l.index l.sections)
