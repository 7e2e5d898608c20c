use Rattle.scm_selection.proofs.CoherenceLemmas.{toggle_keeps_coherent, all_set_keeps_coherent, all_inverted_keeps_coherent}
use Rattle.scm_selection.proofs.toggles.toggles_keep_coherence.Goals as goal

pub returns : goal.returns
returns c = record { key = toggle_keeps_coherent c.args._files.now c.args._key; all = all_set_keeps_coherent c.args._files.now; inverted = all_inverted_keeps_coherent c.args._files.now }
