use Rattle.std.proofs.Common.{◌≡◌, ◌+◌, drop}
use Rattle.scm_merge.specs.Parts.{shared_start}
use Rattle.scm_merge.proofs.lines.shared_start.Given as goal

abbrev pub invariant-loop-count : goal.invariant-loop-count
invariant-loop-count l = shared_start l.first l.second ≡ l.count + shared_start (drop l.count l.first) (drop l.count l.second)
