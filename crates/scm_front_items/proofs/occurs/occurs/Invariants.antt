use Rattle.std.proofs.Common.{◌≡◌, drop}
use Rattle.scm_front_items.specs.Occurs.{occurs}
use Rattle.scm_front_items.proofs.occurs.occurs.Given as goal

-- the rest of the text decides
abbrev pub invariant-loop-index : goal.invariant-loop-index
invariant-loop-index l = occurs l.is_exact l.pattern (drop l.index l.text) ≡ occurs l.is_exact l.pattern l.text
