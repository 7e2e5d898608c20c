use Rattle.std.proofs.Common.{◌≡◌, ◌++◌, take}
use Rattle.std.specs.List.{flat_map}
use Rattle.scm_merge.specs.Records.{record_bytes}
use Rattle.scm_merge.proofs.records.add_context.Given as goal

abbrev pub invariant-loop-line : goal.invariant-loop-line
invariant-loop-line l = l.records.items ≡ l.fn.records.items ++ flat_map (record_bytes 32) (take l.line-index l.lines)
