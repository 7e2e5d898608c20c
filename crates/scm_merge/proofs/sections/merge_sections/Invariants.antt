use Rattle.std.proofs.Common.{◌≤◌, drop, length}
use Rattle.scm_merge.proofs.PartLemmas.{AreBuilt, HasRegions}
use Rattle.scm_merge.proofs.sections.merge_sections.Given as goal

abbrev pub invariant-loop-region : goal.invariant-loop-region
invariant-loop-region l = record {
  rest : HasRegions l.base l.ours l.theirs l.done (drop l.region-index l.regions);
  within : l.done ≤ length l.base;
  built : AreBuilt l.base l.ours l.theirs l.regions l.done (drop l.region-index l.regions) l.sections.items l.pending.items;
}
