use Rattle.scm_render.proofs.CountLemmas as counts
use Rattle.scm_render.proofs.laws.counts_add_up.Goals as goal

pub returns : goal.returns
returns c = record { step = counts.counts-then; further = counts.counts-more; done = counts.counts-end }
