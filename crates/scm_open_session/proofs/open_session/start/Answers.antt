use Rattle.std.proofs.Common.{sym, ◌∙◌}
use Rattle.scm_open_session.specs.Building.{Starts}
use Rattle.scm_open_session.proofs.BuildLemmas.{starts, starts_not}
use Rattle.scm_open_session.proofs.open_session.start.Goals as goal

pub returns-then-not-is_accepted : goal.returns-then-not-is_accepted
returns-then-not-is_accepted c = Starts.not_accepted (sym c.is_accepted.ensures ∙ c.if-not-is_accepted.true)

pub returns-in-Ok : goal.returns-in-Ok
returns-in-Ok c = starts c.args.kind c.args.builder c.into_state.result c.in-Ok.session (sym c.is_accepted.ensures ∙ c.if-not-is_accepted.false) c.into_state.ensures c.in-Ok.ensures.ok

pub returns-in-Err : goal.returns-in-Err
returns-in-Err c = starts_not c.args.kind c.args.builder c.in-Err.error (sym c.is_accepted.ensures ∙ c.if-not-is_accepted.false) c.in-Err.ensures.err
