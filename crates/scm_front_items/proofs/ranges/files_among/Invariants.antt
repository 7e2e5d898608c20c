use Rattle.std.proofs.Common.{◌≡◌, ◌≤◌, ◌+◌, None, drop}
use Rattle.scm_front_items.specs.Ranges.{files_among}
use Rattle.scm_front_items.proofs.ranges.files_among.Given as goal

-- the files so far and those of the keys that are left are all
abbrev pub invariant-loop-index : goal.invariant-loop-index
invariant-loop-index l = record {
  few : l.count ≤ l.index;
  all : l.count + files_among l.last (drop l.index l.keys) ≡ files_among None l.keys;
}
