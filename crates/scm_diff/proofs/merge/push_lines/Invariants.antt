use Rattle.std.proofs.Common.{◌≡◌, ◌++◌, take, map}
use Rattle.scm_diff.specs.Pairs.{unchecked_line}
use Rattle.scm_diff.proofs.merge.push_lines.Given as goal

abbrev pub invariant-loop-text : goal.invariant-loop-text
invariant-loop-text l = l.lines.items ≡ l.fn.lines.items ++ map (unchecked_line l.change_type) (take l.text-index l.texts)
