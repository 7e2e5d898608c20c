use Rattle.scm_front.proofs.logging.after_call.Goals as goal

pub returns-in-On : goal.returns-in-On
returns-in-On c = rw c.in-On.is c.with_call.ensures
