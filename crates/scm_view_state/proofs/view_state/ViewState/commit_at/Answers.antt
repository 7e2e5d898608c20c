use Rattle.std.proofs.Common.{◌≡◌, ◌∙◌, ap, sym}
use Rattle.std.specs.Prelude.{None}
use Rattle.scm_types.specs.declared.state.Commit.{Commit}
use Rattle.scm_view.specs.ViewState.{ViewState, commit_at}
use Rattle.scm_view_state.proofs.ViewLemmas.{commit_at-get}
use Rattle.scm_view_state.proofs.view_state.ViewState.commit_at.Goals as goal

without_message : (c : Commit) → c.message ≡ None → c ≡ record { message = None }
without_message c none = ap (λ m. record { message = m }) none

pub returns-in-Some : goal.returns-in-Some
returns-in-Some c =
    let i = c.args.commit_idx in
    let found = rw (sym c.in-Some.ensures) at (commit_at-get i c.self.inside.state.commits) in
    sym found ∙ ap (λ (s : ViewState). commit_at i s.state.commits) c.self.view_is

pub returns-in-None : goal.returns-in-None
returns-in-None c =
    let i = c.args.commit_idx in
    let lacking = rw (sym c.in-None.ensures) at (commit_at-get i c.self.inside.state.commits) in
    without_message c.self.inside.empty_commit c.self.invariant ∙ sym lacking ∙ ap (λ (s : ViewState). commit_at i s.state.commits) c.self.view_is
