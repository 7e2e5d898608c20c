use Rattle.scm_front.proofs.BegunLemmas.{jump-of}
use Rattle.scm_front.proofs.LoggingLemmas.{logs-by-jump}
use Rattle.scm_front.proofs.begun.Begun.select.Goals as goal

pub invariant_of-result : goal.invariant_of-result
invariant_of-result c =
    logs-by-jump c.self.inside.live c.in_ok-live.live c.args.key c.can_select-is_jump.result c.self.inside.logging c.after_jump-logging.result c.self.invariant
    c.can_select-is_jump.ensures c.in_ok-live.ensures.ok c.after_jump-logging.ensures.jumps c.after_jump-logging.ensures.stays

pub returns-clause-leads : goal.returns-clause-leads
returns-clause-leads c = jump-of c.self.inside.live c.args.self c.in_ok-live.live c.args.key c.self.invariant.begun c.self.view_is c.in_ok-live.ensures.ok
