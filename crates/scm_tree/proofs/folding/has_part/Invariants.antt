use Rattle.std.proofs.Common.{◌≡◌, length}
use Rattle.scm_tree.specs.Folding.{has_part}
use Rattle.scm_tree.proofs.folding.has_part.Given as goal

abbrev pub invariant-parts : goal.invariant-parts
invariant-parts l = has_part l.word l.short l.fn.name ≡ has_part l.word l.short l.rest

abbrev pub decreases-parts : goal.decreases-parts
decreases-parts l = length l.rest
