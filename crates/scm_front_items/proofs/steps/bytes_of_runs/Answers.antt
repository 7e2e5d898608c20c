use Rattle.scm_front_items.proofs.RunLemmas.{all-bytes}
use Rattle.scm_front_items.proofs.steps.bytes_of_runs.Goals as goal

pub returns : goal.returns
returns c =
    all-bytes c.loop-run.bytes c.loop-run.run-index c.args.runs.now _ c.loop-run-test.false c.loop-run.invariant.1 c.loop-run.invariant.0
