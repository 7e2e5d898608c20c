use Rattle.scm_front.proofs.LoggingLemmas.{logs-from-now}
use Rattle.scm_front.proofs.begun.Begun.log.Goals as goal

pub invariant_of-self : goal.invariant_of-self
invariant_of-self c =
    logs-from-now c.self.inside.live c.kind-kind.result c.args.alloc c.self.inside.logging c.begin.new.logging c.kind-kind.ensures c.begin.ensures.begins c.self.invariant
