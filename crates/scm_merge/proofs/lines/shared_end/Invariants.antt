use Rattle.std.proofs.Common.{◌≡◌, ◌+◌, drop, reverse}
use Rattle.scm_merge.specs.Parts.{shared_end, shared_start}
use Rattle.scm_merge.proofs.lines.shared_end.Given as goal

abbrev pub invariant-loop-count : goal.invariant-loop-count
invariant-loop-count l = shared_end l.first l.second ≡ l.count + shared_start (drop l.count (reverse l.first)) (drop l.count (reverse l.second))
