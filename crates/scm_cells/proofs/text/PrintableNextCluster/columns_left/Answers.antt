use Rattle.std.proofs.Common.{sym}
use Rattle.scm_cells.proofs.PrintableLemmas.{width-bytes_as_clusters}
use Rattle.scm_cells.proofs.text.PrintableNextCluster.columns_left.Goals as goal

pub returns : goal.returns
returns c = sym (width-bytes_as_clusters _)
