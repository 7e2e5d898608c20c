use Rattle.scm_front.proofs.LoggingLemmas.{logs-start}
use Rattle.scm_front.proofs.begun.Begun.new.Goals as goal

pub invariant_of-result : goal.invariant_of-result
invariant_of-result c = logs-start c.args.state c.args.kind c.in_ok-live.live c.requires c.in_ok-live.ensures.ok
