use Rattle.std.proofs.Common.{◌≡◌, length}
use Rattle.unicode_segmentation.specs.Iter.{graphemes_left}
use Rattle.scm_cells.specs.Clusters.{visible_clusters}
use Rattle.scm_cells.proofs.text.GraphemesNextCluster.next_cluster.Given as goal

abbrev pub invariant-pieces : goal.invariant-pieces
invariant-pieces l = visible_clusters (graphemes_left l.fn.self) ≡ visible_clusters (graphemes_left l.self)

abbrev pub decreases-pieces : goal.decreases-pieces
decreases-pieces l = length (graphemes_left l.self)
