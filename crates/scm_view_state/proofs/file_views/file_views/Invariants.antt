use Rattle.std.proofs.Common.{◌≡◌, ◌++◌, drop}
use Rattle.scm_view.specs.ViewState.{file_views_of}
use Rattle.scm_view_state.specs.Views.{lent_files}
use Rattle.scm_view_state.proofs.file_views.file_views.Given as goal

-- the views so far and those of the files that are left are all
abbrev pub invariant-loop-file_idx : goal.invariant-loop-file_idx
invariant-loop-file_idx l = lent_files l.views.items ++ file_views_of l.view_state l.commit_idx l.file_idx (drop l.file_idx l.files) ≡ file_views_of l.view_state l.commit_idx 0 l.files
