use Rattle.std.proofs.Common.{◌≡◌, ◌++◌, take}
use Rattle.scm_c_values.specs.Quoting.{escaped_text}
use Rattle.scm_c_values.proofs.quoting.push_escaped_text.Given as goal

abbrev pub invariant-loop-byte : goal.invariant-loop-byte
invariant-loop-byte l = l.out.items ≡ l.fn.out.items ++ escaped_text (take l.byte-index l.text)
