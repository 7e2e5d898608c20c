use Rattle.scm_diff.proofs.ByteLemmas.{bytes-back, ends-stay, plain-same}
use Rattle.scm_diff.proofs.laws.bytes_come_back.Goals as goal

pub returns-clause-back : goal.returns-clause-back
returns-clause-back c = bytes-back c.args.bytes.now (λ k. (c.type_inv.bytes k).fits)

pub returns-clause-line_ends : goal.returns-clause-line_ends
returns-clause-line_ends c = ends-stay c.args.bytes.now

pub returns-clause-plain : goal.returns-clause-plain
returns-clause-plain c = plain-same c.args.bytes.now
