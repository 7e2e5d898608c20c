use Rattle.std.proofs.Common.{length}
use Rattle.unicode_segmentation.specs.Iter.{graphemes_left}
use Rattle.scm_cells.proofs.BeginningLemmas.{HasClusters}
use Rattle.scm_cells.proofs.beginnings.first_clusters.Given as goal

abbrev pub invariant-pieces : goal.invariant-pieces
invariant-pieces l = HasClusters l.text l.width (graphemes_left l.pieces)

abbrev pub decreases-pieces : goal.decreases-pieces
decreases-pieces l = length (graphemes_left l.pieces)
