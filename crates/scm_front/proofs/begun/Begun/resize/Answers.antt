use Rattle.scm_front.proofs.LoggingLemmas.{logs-by-screen, logs-still}
use Rattle.scm_front.proofs.begun.Begun.resize.Goals as goal

pub invariant_of-self : goal.invariant_of-self
invariant_of-self c = logs-still c.self.inside.live c.resize.new.self c.self.inside.logging c.in_err-resize.ensures.unchanged c.self.invariant

pub invariant_of-self-2 : goal.invariant_of-self-2
invariant_of-self-2 c =
    logs-by-screen c.self.inside.live c.resize.new.self c.args.kind c.self.inside.logging c.add_call.new.logging c.in_ok-resize.ensures.ok c.add_call.ensures c.self.invariant
