use Rattle.scm_record.proofs.JumpLemmas.{jumped}
use Rattle.scm_record.proofs.live.jumps.jumps_are_batches.Goals as goal

pub returns : goal.returns
returns c = λ given kind calls l key path can. jumped given kind calls l key path can
