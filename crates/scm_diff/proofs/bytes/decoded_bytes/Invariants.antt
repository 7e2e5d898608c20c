use Rattle.std.proofs.Common.{◌≡◌}
use Rattle.std.specs.List.{flat_map}
use Rattle.scm_diff.specs.Bytes.{bytes_of_char}
use Rattle.scm_diff.proofs.bytes.decoded_bytes.Given as goal

abbrev pub invariant-loop-c : goal.invariant-loop-c
invariant-loop-c l = l.bytes.items ≡ flat_map bytes_of_char l.yielded
