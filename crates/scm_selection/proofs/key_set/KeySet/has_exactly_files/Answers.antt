use Rattle.std.proofs.Common.{◌≡◌, ◌∙◌, ◌++◌, [], ◌∷◌, List, length, true, not, ap, ap₂, refl, sym, arith}
use Rattle.std.specs.Prelude.{filter}
use Rattle.scm_types.specs.declared.keys.SelectionKey.{SelectionKey}
use Rattle.scm_selection.specs.declared.key_flags.FileFlags.{FileFlags}
use Rattle.scm_selection.specs.KeyLists.{all_keys, is_line}
use Rattle.scm_selection.specs.KeySet.{is_same_set, key_set}
use Rattle.scm_selection.specs.KeyFlags.{flagged_keys}
use Rattle.scm_selection.proofs.KeyFlagLemmas.{files-are}
use Rattle.scm_selection.proofs.KeyOrderLemmas.{same-self}
use Rattle.scm_selection.proofs.key_set.KeySet.has_exactly_files.Goals as goal

no-keys : (ks : List SelectionKey) → length ks ≡ 0 → ks ≡ []
no-keys [] e = refl
no-keys (k ∷ ks) e = absurd (omega (arith, e))

pub returns-then-are_files_set-clause-ok : goal.returns-then-are_files_set-clause-ok
returns-then-are_files_set-clause-ok c =
    let files = c.args.files.now in
    let all = key_set (filter (λ key. not (is_line key)) (all_keys files)) in
    let none : c.self.inside.others.keys ≡ [] = no-keys c.self.inside.others.keys (c.is_empty.ensures.0 c.if-is_empty.true) in
    let set = sym c.as_slice.ensures ∙ c.are_files_set.ensures c.if-are_files_set.true in
    let is : c.args.self.now ≡ all =
    sym c.self.view_is
    ∙ ap₂ (λ (ks : List SelectionKey) (fs : List FileFlags). key_set (ks ++ flagged_keys 0 fs)) none set
    ∙ ap key_set (files-are (λ key. not (is_line key)) (λ f s. refl) (λ f s l. refl) true (λ f. refl) 0 files) in
    sym (ap (λ (ks : List SelectionKey). is_same_set ks all) is ∙ same-self all)
