use Rattle.scm_record.proofs.JumpLemmas.{reached}
use Rattle.scm_record.proofs.live.jumps.moves_reach_every_key.Goals as goal

pub returns : goal.returns
returns c = λ given kind calls l key path closed is. reached given kind calls l key path closed is
