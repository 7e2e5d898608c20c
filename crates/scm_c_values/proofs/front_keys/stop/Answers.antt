use Rattle.std.proofs.Common.{arith}
use Rattle.scm_c_values.proofs.KeyLemmas.{goes_on, stops_here}
use Rattle.scm_c_values.proofs.front_keys.stop.Goals as goal

pub returns-then-key-ne0-clause-stops : goal.returns-then-key-ne0-clause-stops
returns-then-key-ne0-clause-stops c =
    stops_here c.args.decoder c.loop-index.decoder c.push.new.self c.args.bytes.now c.loop-index.index c.push.result c.key_of_pair-key.result
    c.loop-index-test.true c.loop-index.invariant c.push.ensures c.key_of_pair-key.ensures c.if-key-ne0.true

pub loop-index-preserved : goal.loop-index-preserved
loop-index-preserved c =
    goes_on c.args.decoder c.loop-index.decoder c.push.new.self c.args.bytes.now c.loop-index.index c.push.result c.key_of_pair-key.result
    c.loop-index-test.true c.loop-index.invariant c.push.ensures c.key_of_pair-key.ensures c.if-key-ne0.false
