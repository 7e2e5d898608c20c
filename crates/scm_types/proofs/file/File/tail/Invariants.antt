use Rattle.std.proofs.Common.{◌≡◌, ◌≤◌, take, drop, option_and_then}
use Rattle.std.specs.Option.{option_copied}
use Rattle.scm_types.specs.Split.{binary_change, last_binary_change, tail_of}
use Rattle.scm_types.proofs.file.File.tail.Given as goal

abbrev pub invariant-loop-i : goal.invariant-loop-i
invariant-loop-i l = record {
  in_range : l.start ≤ l.i;
  binary : option_and_then binary_change (option_copied l.binary) ≡ last_binary_change (take l.i l.sections);
  tail : drop l.start (take l.i l.sections) ≡ tail_of (take l.i l.sections);
}
