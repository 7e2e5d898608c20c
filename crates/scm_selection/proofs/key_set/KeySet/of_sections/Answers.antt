use Rattle.std.proofs.Common.{◌∙◌, ◌++◌, false, List, ap, ap₂, refl}
use Rattle.scm_types.specs.declared.keys.SelectionKey.{SelectionKey}
use Rattle.scm_selection.specs.declared.key_flags.FileFlags.{FileFlags}
use Rattle.scm_selection.specs.KeyLists.{is_section}
use Rattle.scm_selection.specs.KeySet.{key_set}
use Rattle.scm_selection.specs.KeyFlags.{flagged_keys}
use Rattle.scm_selection.proofs.KeyFlagLemmas.{files-are}
use Rattle.scm_selection.proofs.key_set.KeySet.of_sections.Goals as goal

pub returns-clause-ok : goal.returns-clause-ok
returns-clause-ok c =
    ap₂ (λ (ks : List SelectionKey) (fs : List FileFlags). key_set (ks ++ flagged_keys 0 fs)) c.new-others.ensures.empty c.in_ok-flags.ensures
    ∙ ap key_set (files-are is_section (λ f s. refl) (λ f s l. refl) false (λ f. refl) 0 c.args.files.now)
