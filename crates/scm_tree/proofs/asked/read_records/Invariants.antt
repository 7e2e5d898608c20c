use Rattle.std.proofs.Common.{◌≡◌, [], length}
use Rattle.scm_tree.specs.Records.{held_by, read, rows_in}
use Rattle.scm_tree.proofs.asked.read_records.Given as goal

abbrev pub decreases-records : goal.decreases-records
decreases-records l = length l.rest

abbrev pub invariant-records : goal.invariant-records
invariant-records l = read (held_by l.asked) [] l.rest ≡ rows_in l.bytes
