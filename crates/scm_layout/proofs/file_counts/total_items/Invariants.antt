use Rattle.std.proofs.Common.{◌≡◌, take}
use Rattle.scm_layout.specs.Recounts.{total_items}
use Rattle.scm_layout.proofs.file_counts.total_items.Given as goal

-- the sum so far
abbrev pub invariant-loop-count : goal.invariant-loop-count
invariant-loop-count l = l.total ≡ total_items (take l.count-index l.counts)
