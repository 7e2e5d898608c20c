use Rattle.std.proofs.Common.{◌≡◌, ◌+◌, ◌-◌, ◌≤◌, ◌++◌, length, take}
use Rattle.unicode_segmentation.specs.Iter.{graphemes_left}
use Rattle.scm_cells.specs.Clusters.{visible_clusters}
use Rattle.scm_cells.specs.Laying.{fit, columns_of}
use Rattle.scm_cells.proofs.row.lay_clusters.Given as goal

abbrev pub invariant-clusters : goal.invariant-clusters
invariant-clusters l = record {
  after : l.start ≤ l.end;
  within : l.end ≤ length l.columns;
  laid : take l.end l.columns ++ fit (length l.columns - l.end) (visible_clusters (graphemes_left l.clusters))
      ≡ take l.start l.initial.columns ++ fit (length l.initial.columns - l.start) (visible_clusters (graphemes_left l.fn.clusters));
  taken : columns_of (visible_clusters (graphemes_left l.fn.clusters)) ≡ (l.end - l.start) + columns_of (visible_clusters (graphemes_left l.clusters));
}

abbrev pub decreases-clusters : goal.decreases-clusters
decreases-clusters l = length (visible_clusters (graphemes_left l.clusters))
