use Rattle.scm_open_session.specs.Logging.{IsUnloggedCode}
use Rattle.scm_open_session.proofs.logging.log_at.Goals as goal

pub returns-in-Some-Lost-clause-err : goal.returns-in-Some-Lost-clause-err
returns-in-Some-Lost-clause-err c = IsUnloggedCode.forgotten

pub returns-in-Some-Fresh-clause-err : goal.returns-in-Some-Fresh-clause-err
returns-in-Some-Fresh-clause-err c = IsUnloggedCode.unlogged
