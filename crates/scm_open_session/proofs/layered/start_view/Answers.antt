use Rattle.std.proofs.Common.{sym, ◌∙◌}
use Rattle.scm_open_session.specs.LayerCalls.{StartsView}
use Rattle.scm_open_session.proofs.LayerCallLemmas.{view_starts, view_starts_not}
use Rattle.scm_open_session.proofs.layered.start_view.Goals as goal

pub returns-then-not-is_accepted : goal.returns-then-not-is_accepted
returns-then-not-is_accepted c = StartsView.not_accepted (sym c.is_accepted.ensures ∙ c.if-not-is_accepted.true)

pub returns-in-Ok : goal.returns-in-Ok
returns-in-Ok c =
    view_starts c.args.width c.args.height c.args.builder c.into_state.result _ _ c.in-Ok.view (sym c.is_accepted.ensures ∙ c.if-not-is_accepted.false) c.into_state.ensures
    c.min.ensures c.min-2.ensures c.in-Ok.ensures.ok

pub returns-in-Err : goal.returns-in-Err
returns-in-Err c = view_starts_not c.args.width c.args.height c.args.builder c.in-Err.error (sym c.is_accepted.ensures ∙ c.if-not-is_accepted.false) c.in-Err.ensures.err
