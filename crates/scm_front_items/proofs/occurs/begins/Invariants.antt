use Rattle.std.proofs.Common.{◌≡◌, drop}
use Rattle.scm_front_items.specs.Occurs.{begins}
use Rattle.scm_front_items.proofs.occurs.begins.Given as goal

-- the rest of the pattern decides
abbrev pub invariant-loop-index : goal.invariant-loop-index
invariant-loop-index l = begins l.is_exact (drop l.index l.pattern) (drop l.index l.text) ≡ begins l.is_exact l.pattern l.text
