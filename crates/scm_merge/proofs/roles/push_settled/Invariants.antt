use Rattle.std.proofs.Common.{◌≡◌, ◌++◌, replicate}
use Rattle.scm_merge.specs.declared.roles.Role.TheVariants.{Settled}
use Rattle.scm_merge.proofs.roles.push_settled.Given as goal

abbrev pub invariant-settled : goal.invariant-settled
invariant-settled l = l.roles.items ≡ l.fn.roles.items ++ replicate l.counter Settled
