use Rattle.std.proofs.Common.{◌∙◌, ◌+◌, ◌++◌, ◌∷◌, drop, append-nil, ap, sym}
use Rattle.scm_view.specs.ViewState.{file_views_of}
use Rattle.scm_view_state.specs.Views.{lent_file, lent_files}
use Rattle.scm_view_state.proofs.ViewLemmas.{pushed, file_views-more, file_views-end}
use Rattle.scm_view_state.proofs.file_views.file_views.Goals as goal

pub loop-file_idx-preserved : goal.loop-file_idx-preserved
loop-file_idx-preserved c =
    let s = c.args.view_state.now in
    let files = c.args.files.now in
    let i = c.loop-file_idx.file_idx in
    let made = c.loop-file_idx.views.items in
    let left = file_views_of s c.args.commit_idx (i + 1) (drop (i + 1) files) in
    let more = rw (sym c.index-files-file_idx.is) at (file_views-more s c.args.commit_idx i files c.index-files-file_idx.result c.loop-file_idx-test.true) in
    rw c.in_ok-push.ensures.items (pushed lent_file made c.in_ok-file_view.field-0 left ∙ ap (λ v. lent_files made ++ (v ∷ left)) c.in_ok-file_view.ensures ∙ ap (λ vs. lent_files made ++ vs) (sym more) ∙ c.loop-file_idx.invariant)

pub returns : goal.returns
returns c =
    let made = lent_files c.loop-file_idx.views.items in
    let none = file_views-end c.args.view_state.now c.args.commit_idx c.loop-file_idx.file_idx c.args.files.now c.loop-file_idx-test.false in
    ap lent_files c.from.ensures ∙ sym (append-nil made) ∙ ap (λ vs. made ++ vs) (sym none) ∙ c.loop-file_idx.invariant
