use Rattle.std.proofs.Common.{arith}
use Rattle.scm_merge.proofs.MarkerLemmas.{first-len}
use Rattle.scm_merge.proofs.style.marker_len.Goals as goal

pub loop-line-init : goal.loop-line-init
loop-line-init c = record { greatest = first-len c.args.least c.args.lines.now; least = omega arith }
