use Rattle.scm_open_session.specs.Logging.{IsUnloggedCode}
use Rattle.scm_open_session.proofs.open_session.OpenSession.script.Goals as goal

pub returns-in-Err-clause-err : goal.returns-in-Err-clause-err
returns-in-Err-clause-err c = IsUnloggedCode.forgotten
