use Rattle.std.proofs.Common.{◌∙◌, sym}
use Rattle.scm_tree.proofs.FoldingLemmas.{passed_blank, passed_colon, passed_end, passed_other}
use Rattle.scm_tree.proofs.folding.is_passed.Goals as goal

pub loop-i-preserved : goal.loop-i-preserved
loop-i-preserved c = c.loop-i.invariant ∙ passed_blank c.args.end.now c.loop-i.i c.loop-i-test.true c.if-byte-eq58.false (sym c.is_dot_or_blank.ensures ∙ c.if-not-is_dot_or_blank.false)

pub returns-then-byte-eq58 : goal.returns-then-byte-eq58
returns-then-byte-eq58 c = sym (c.loop-i.invariant ∙ passed_colon c.args.end.now c.loop-i.i c.loop-i-test.true c.if-byte-eq58.true)

pub returns-then-not-is_dot_or_blank : goal.returns-then-not-is_dot_or_blank
returns-then-not-is_dot_or_blank c = sym (c.loop-i.invariant ∙ passed_other c.args.end.now c.loop-i.i c.loop-i-test.true c.if-byte-eq58.false (sym c.is_dot_or_blank.ensures ∙ c.if-not-is_dot_or_blank.true))

pub returns : goal.returns
returns c = sym (c.loop-i.invariant ∙ passed_end c.args.end.now c.loop-i.i c.loop-i-test.false)
