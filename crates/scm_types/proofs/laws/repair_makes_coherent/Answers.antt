use Rattle.scm_types.proofs.RepairLemmas.{repair_makes_coherent}
use Rattle.scm_types.proofs.laws.repair_makes_coherent.Goals as goal

pub returns : goal.returns
returns c = repair_makes_coherent c.args.file.now
