use Rattle.std.proofs.Common.{◌≡◌, ◌++◌, drop}
use Rattle.scm_merge.specs.Records.{sections_records}
use Rattle.scm_merge.proofs.records.file_records.Given as goal

abbrev pub invariant-loop-section : goal.invariant-loop-section
invariant-loop-section l = l.records.items ++ sections_records l.seen (drop l.section-index l.section-items) ≡ sections_records 0 l.section-items
