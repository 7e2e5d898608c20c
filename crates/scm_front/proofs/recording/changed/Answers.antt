use Rattle.scm_front.proofs.recording.changed.Goals as goal

pub returns-in-User : goal.returns-in-User
returns-in-User c = rw c.in-User.is c.recorded.ensures

pub returns-in-Program : goal.returns-in-Program
returns-in-Program c = rw c.in-Program.is c.restarted.ensures
