use Rattle.std.proofs.Common.{arith}
use Rattle.scm_tree.proofs.ByteLemmas.{found, none_left, none_passed, passed}
use Rattle.scm_tree.proofs.bytes.first_place.Goals as goal

pub loop-i-init : goal.loop-i-init
loop-i-init c = record { passed = none_passed c.args.byte c.args.bytes.now; within = omega arith }

pub loop-i-preserved : goal.loop-i-preserved
loop-i-preserved c = record { passed = passed c.args.byte c.args.bytes.now c.loop-i.i c.loop-i.invariant.passed c.if-other-byte.false; within = omega arith }

pub returns-clause-is : goal.returns-clause-is
returns-clause-is c = none_left c.args.byte c.args.bytes.now c.loop-i.i c.loop-i.invariant.passed c.loop-i.invariant.within c.loop-i-test.false

pub returns-then-other-byte-clause-is : goal.returns-then-other-byte-clause-is
returns-then-other-byte-clause-is c = found c.args.byte c.args.bytes.now c.loop-i.i c.loop-i.invariant.passed c.loop-i-test.true c.if-other-byte.true
