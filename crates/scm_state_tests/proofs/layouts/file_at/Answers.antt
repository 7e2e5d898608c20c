use Rattle.std.proofs.Common.{◌∙◌, ap, subst, sym}
use Rattle.scm_layout.specs.declared.state_layout.Layout.{Layout}
use Rattle.scm_layout.specs.Searches.{FilesFollow}
use Rattle.scm_layout.proofs.SearchLemmas.{files-follow}
use Rattle.scm_state_tests.proofs.layouts.file_at.Goals as goal

pub file_on-requires : goal.file_on-requires
file_on-requires c = subst FilesFollow (sym (c.as_slice.ensures ∙ ap (λ (l : Layout). l.rows.files) c.requires)) (files-follow _ _)
