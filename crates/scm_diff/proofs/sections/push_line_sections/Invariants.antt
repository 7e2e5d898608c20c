use Rattle.std.proofs.Common.{◌≤◌, drop, length}
use Rattle.scm_diff.proofs.ChangedSectionLemmas.{AreSectionsTo, HasHunks}
use Rattle.scm_diff.proofs.sections.push_line_sections.Given as goal

abbrev pub invariant-loop-hunk : goal.invariant-loop-hunk
invariant-loop-hunk l = record {
  rest : HasHunks l.old l.new l.done (drop l.hunk-index l.hunks);
  within : l.done ≤ length l.old;
  built : AreSectionsTo l.old l.new l.hunks l.fn.sections.items l.done (drop l.hunk-index l.hunks) l.sections.items;
}
