use Rattle.std.proofs.Common.{◌≡◌, length}
use Rattle.scm_front_items.specs.Histories.{bounded}
use Rattle.scm_front_items.proofs.history.bounded.Given as goal

-- what is left has the same steps in the end
abbrev pub invariant-loop-steps : goal.invariant-loop-steps
invariant-loop-steps l = bounded l.fn.steps ≡ bounded l.steps.items

abbrev pub decreases-loop-steps : goal.decreases-loop-steps
decreases-loop-steps l = length l.steps.items
