use Rattle.std.proofs.Common.{arith}
use Rattle.scm_diff.proofs.PairLemmas.{paired-more, paired-none}
use Rattle.scm_diff.proofs.merge.paired_lines.Goals as goal

pub loop-i-init : goal.loop-i-init
loop-i-init c = rw c.in_ok-lines.ensures.items (paired-none c.args.removed.now c.args.added.now)

pub loop-i-preserved : goal.loop-i-preserved
loop-i-preserved c =
    paired-more c.args.removed.now c.args.added.now c.loop-i.i c.index-removed-i.result c.index-added-i.result c.loop-i.lines.items c.push_line.new.lines.items c.push_line-in-loop-i.new.lines.items
    c.loop-i.invariant c.loop-i-test.true (omega (arith, c.requires)) c.index-removed-i.is c.index-added-i.is c.in_ok-push_line.ensures c.in_ok-push_line-2.ensures
