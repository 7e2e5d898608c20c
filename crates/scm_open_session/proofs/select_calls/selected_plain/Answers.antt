use Rattle.scm_open_session.proofs.MarkingLemmas.{selects_not, selects_plain}
use Rattle.scm_open_session.proofs.select_calls.selected_plain.Goals as goal

pub returns-in-Ok : goal.returns-in-Ok
returns-in-Ok c = selects_plain c.args.key c.args.session c.in-Ok.next c.in-Ok.ensures.ok

pub returns-in-Err : goal.returns-in-Err
returns-in-Err c = selects_not c.args.key c.args.session c.in-Err.error c.in-Err.ensures.err
