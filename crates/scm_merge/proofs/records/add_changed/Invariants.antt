use Rattle.std.proofs.Common.{◌≡◌, ◌++◌, take}
use Rattle.std.specs.List.{flat_map}
use Rattle.scm_merge.specs.Records.{item_record}
use Rattle.scm_merge.proofs.records.add_changed.Given as goal

abbrev pub invariant-loop-line : goal.invariant-loop-line
invariant-loop-line l = l.records.items ≡ l.fn.records.items ++ flat_map (item_record l.letter) (take l.line-index l.lines)
