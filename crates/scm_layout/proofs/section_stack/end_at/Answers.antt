use Rattle.std.proofs.Common.{◌+◌}
use Rattle.scm_layout.proofs.SectionStackLemmas.{first-past, first-there}
use Rattle.scm_layout.proofs.section_stack.end_at.Goals as goal

pub returns-then-next-tops : goal.returns-then-next-tops
returns-then-next-tops c = first-there c.args.tops.now (c.args.index + 1) c.args.end 0 c.if-next-tops.true

pub returns-else-next-tops : goal.returns-else-next-tops
returns-else-next-tops c = first-past c.args.tops.now (c.args.index + 1) c.args.end c.if-next-tops.false
