use Rattle.std.proofs.Common.{◌≡◌, ◌++◌, length, string_bytes}
use Rattle.scm_diff.specs.Bytes.{text_of_bytes}
use Rattle.scm_diff.proofs.bytes.coded_text.Given as goal

abbrev pub invariant-pieces : goal.invariant-pieces
invariant-pieces l = string_bytes l.text ++ text_of_bytes l.rest ≡ text_of_bytes l.fn.bytes

abbrev pub decreases-pieces : goal.decreases-pieces
decreases-pieces l = length l.rest
