use Rattle.scm_front.proofs.LoggingLemmas.{added}
use Rattle.scm_front.proofs.logging.with_call.Goals as goal

pub returns-in-Ok : goal.returns-in-Ok
returns-in-Ok c = added c.args.log c.args.call c.in-Some.call c.push.new.self c.in-Some.is c.in-Ok.ensures.items
