use Rattle.std.proofs.Common.{◌≡◌, take}
use Rattle.scm_types.proofs.items.Items.try_clone.Given as goal

abbrev pub invariant-loop-item : goal.invariant-loop-item
invariant-loop-item g l = l.copies.items ≡ take l.item-index l.self
