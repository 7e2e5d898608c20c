use Rattle.std.proofs.Common.{◌≡◌, ◌≤◌, ◌++◌, drop, length, map}
use Rattle.scm_diff.specs.Blanks.{squeezed}
use Rattle.scm_diff.specs.Blanks as blanks
use Rattle.scm_diff.proofs.ChangedSectionLemmas.{HasHunks}
use Rattle.scm_diff.proofs.blanks.kept_lines.Given as goal

abbrev pub invariant-loop-hunk : goal.invariant-loop-hunk
invariant-loop-hunk l = record {
  rest : HasHunks (map squeezed l.old) (map squeezed l.new) l.done (drop l.hunk-index l.hunks);
  within : l.done ≤ length l.old;
  built : l.lines.items ++ blanks.kept_lines l.old l.new l.done (drop l.hunk-index l.hunks) ≡ blanks.kept_lines l.old l.new 0 l.hunks;
}
