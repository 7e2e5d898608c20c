-- When a view shows an accepted state: the condition of its row index.
use Rattle.std.specs.Prelude.{◌≡◌, ℕ, true}
use Rattle.scm_types.specs.Limits.{is_accepted_state}
use Rattle.scm_document.specs.declared.commit_view.CommitView.{CommitView}
use Rattle.scm_view.specs.ViewState.{ViewState, Shows}

-- view v shows a commit of a session whose state is accepted
pub record ShowsAccepted (v : CommitView) : Type 0 where
  -- what the session shows
  pub shown : ViewState
  -- the commit's index, counted from 0
  pub commit : ℕ
  -- the view shows that commit
  pub shows : Shows v shown commit
  -- the session's state is accepted
  pub accepted : is_accepted_state shown.state ≡ true
