use Rattle.std.proofs.Common.{◌∙◌}
use Rattle.scm_layout.proofs.CountLemmas.{recount-fits, recount-is, recount-lengths}
use Rattle.scm_layout.proofs.file_counts.FileCounts.recount.Goals as goal

pub recount_all-requires : goal.recount_all-requires
recount_all-requires c = record { lengths = recount-lengths _ _ c.requires; fits = recount-fits _ _ c.requires }

pub returns : goal.returns
returns c = c.recount_all.ensures ∙ recount-is _ _ c.requires
