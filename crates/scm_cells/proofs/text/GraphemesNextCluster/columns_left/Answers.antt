use Rattle.std.proofs.Common.{◌∙◌, ap, zero-add}
use Rattle.unicode_segmentation.specs.Iter.{graphemes_left}
use Rattle.scm_cells.specs.Clusters.{visible_clusters}
use Rattle.scm_cells.specs.Laying.{columns_of}
use Rattle.scm_cells.proofs.text.GraphemesNextCluster.columns_left.Goals as goal

pub pieces-init : goal.pieces-init
pieces-init c = zero-add _ ∙ ap (λ ps. columns_of (visible_clusters (graphemes_left ps))) c.into_iter-piece-iterator.ensures.into_iter_gives
