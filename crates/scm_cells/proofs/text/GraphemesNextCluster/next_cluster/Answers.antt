use Rattle.std.proofs.Common.{sym}
use Rattle.scm_cells.proofs.WrittenLemmas.{kept_bytes, kept_columns}
use Rattle.scm_cells.proofs.text.GraphemesNextCluster.next_cluster.Goals as goal

pub returns-in-Some-visible_width-clause-bytes : goal.returns-in-Some-visible_width-clause-bytes
returns-in-Some-visible_width-clause-bytes c = kept_bytes _ _ (sym c.in-Some-visible_width.ensures.value)

pub returns-in-Some-visible_width-clause-columns : goal.returns-in-Some-visible_width-clause-columns
returns-in-Some-visible_width-clause-columns c = kept_columns _ _ (sym c.in-Some-visible_width.ensures.value)
