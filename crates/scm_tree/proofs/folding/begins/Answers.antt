use Rattle.std.proofs.Common.{◌∙◌, sym, arith}
use Rattle.scm_tree.proofs.FoldingLemmas.{begins_differs, begins_end, begins_past, begins_same}
use Rattle.scm_tree.proofs.folding.begins.Goals as goal

pub loop-i-preserved : goal.loop-i-preserved
loop-i-preserved c = c.loop-i.invariant ∙ begins_same c.args.word.now c.args.name.now c.loop-i.i c.loop-i-test.true (omega arith) (sym c.small.ensures ∙ c.if-small-letter.false)

pub returns-then-i-name : goal.returns-then-i-name
returns-then-i-name c = sym (c.loop-i.invariant ∙ begins_past c.args.word.now c.args.name.now c.loop-i.i c.loop-i-test.true c.if-i-name.true)

pub returns-then-small-letter : goal.returns-then-small-letter
returns-then-small-letter c = sym (c.loop-i.invariant ∙ begins_differs c.args.word.now c.args.name.now c.loop-i.i c.loop-i-test.true (omega arith) (λ e. c.if-small-letter.true (c.small.ensures ∙ e)))

pub returns : goal.returns
returns c = sym (c.loop-i.invariant ∙ begins_end c.args.word.now c.args.name.now c.loop-i.i c.loop-i-test.false)
