use Rattle.std.proofs.Common.{◌≡◌, ◌+◌, length}
use Rattle.unicode_segmentation.specs.Iter.{graphemes_left}
use Rattle.scm_cells.specs.Clusters.{visible_clusters}
use Rattle.scm_cells.specs.Laying.{columns_of}
use Rattle.scm_cells.proofs.WrittenLemmas.{HasPassed}
use Rattle.scm_cells.proofs.row.pass_over.Given as goal

abbrev pub invariant-clusters : goal.invariant-clusters
invariant-clusters l = record {
  passed : HasPassed l.columns (visible_clusters (graphemes_left l.fn.clusters)) l.passed (visible_clusters (graphemes_left l.clusters));
  taken : columns_of (visible_clusters (graphemes_left l.fn.clusters)) ≡ l.passed + columns_of (visible_clusters (graphemes_left l.clusters));
}

abbrev pub decreases-clusters : goal.decreases-clusters
decreases-clusters l = length (visible_clusters (graphemes_left l.clusters))
