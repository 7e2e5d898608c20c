use Rattle.std.proofs.Common.{take}
use Rattle.scm_c_values.proofs.KeyLemmas.{NoKeyYet}
use Rattle.scm_c_values.proofs.front_keys.stop.Given as goal

abbrev pub invariant-loop-index : goal.invariant-loop-index
invariant-loop-index l = NoKeyYet l.fn.decoder l.decoder (take l.index l.fn.bytes)
