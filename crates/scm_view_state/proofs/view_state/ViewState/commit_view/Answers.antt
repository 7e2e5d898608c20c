use Rattle.std.proofs.Common.{◌≡◌, ◌∙◌, refl, ap, sym}
use Rattle.scm_document.specs.declared.commit_view.CommitView.{CommitView}
use Rattle.scm_document.specs.Rows.{document_of}
use Rattle.scm_view.specs.ViewState.{ViewState, commit_view_of, file_views_of}
use Rattle.scm_view_state.specs.Views.{lent_files}
use Rattle.scm_view_state.proofs.LentLemmas.{lent_commit, document-lent}
use Rattle.scm_view_state.proofs.view_state.ViewState.commit_view.Goals as goal

pub returns-clause-ok : goal.returns-clause-ok
returns-clause-ok c =
    let shown = c.args.self.now in
    let commit = c.args.commit_idx in
    let made : CommitView = record { commit_message_view = record { commit_idx = commit; commit = c.commit_at.result }; file_views = c.in_ok-file_views.file_views } in
    let files : lent_files made.file_views ≡ file_views_of shown commit 0 shown.state.files =
    c.in_ok-file_views.ensures ∙ ap (λ fs. file_views_of shown commit 0 fs) (c.as_slice.ensures ∙ ap (λ (s : ViewState). s.state.files) c.self.view_is) in
    let same : lent_commit made ≡ commit_view_of shown commit = rw (c.commit_at.ensures, files) refl in
    sym (document-lent made) ∙ ap document_of same
