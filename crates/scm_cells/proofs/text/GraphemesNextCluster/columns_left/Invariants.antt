use Rattle.std.proofs.Common.{◌≡◌, ◌+◌}
use Rattle.unicode_segmentation.specs.Iter.{graphemes_left}
use Rattle.scm_cells.specs.Clusters.{visible_clusters}
use Rattle.scm_cells.specs.Laying.{columns_of}
use Rattle.scm_cells.proofs.text.GraphemesNextCluster.columns_left.Given as goal

abbrev pub invariant-pieces : goal.invariant-pieces
invariant-pieces l = l.width + columns_of (visible_clusters (graphemes_left l.piece-iterator)) ≡ columns_of (visible_clusters (graphemes_left l.fn.self))
