use Rattle.std.proofs.Common.{◌≡◌, ◌≤◌, length, drop}
use Rattle.scm_tree.specs.Folding.{is_same, letters}
use Rattle.scm_tree.proofs.folding.is_on_hfs.Given as goal

abbrev pub invariant-loop-i : goal.invariant-loop-i
invariant-loop-i l = record {
  same : is_same (letters 0 l.name) l.word ≡ is_same (letters l.at.skip (drop l.i l.name)) (drop l.at.count l.word);
  within : l.at.count ≤ length l.word;
}
