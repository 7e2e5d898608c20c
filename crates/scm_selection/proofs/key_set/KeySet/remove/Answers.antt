use Rattle.std.proofs.Common.{◌≡◌, ◌∙◌, ◌++◌, false, List, ap, drop, length, take, rules}
use Rattle.scm_types.specs.declared.keys.SelectionKey.{SelectionKey}
use Rattle.scm_selection.specs.declared.key_flags.FileFlags.{FileFlags}
use Rattle.scm_selection.specs.KeySet.{key_set, without_key}
use Rattle.scm_selection.specs.KeyFlags.{flagged_keys, with_flag}
use Rattle.scm_selection.proofs.KeySetLemmas.{removed-has}
use Rattle.scm_selection.proofs.KeyFlagLemmas.{key-removed}
use Rattle.scm_selection.proofs.ToggleLemmas.{lent_whole}
use Rattle.scm_selection.proofs.key_set.KeySet.remove.Goals as goal

pub returns : goal.returns
returns c =
    let others = c.self.inside.others.keys in
    let flags = c.self.inside.flags in
    let key = c.args.key in
    let new = c.put_flag.new.flags in
    let rest = c.remove.new.self.keys in
    let left = removed-has _ _ key others rest c.remove.ensures.updates.0 (λ a b. search rules) (λ j. search rules) in
    let put : new ≡ with_flag false flags key = c.put_flag.ensures ∙ ap (λ (fs : List FileFlags). with_flag false fs key) c.as_mut_slice.ensures.value in
    let whole : take (length flags) (new ++ drop (length new) flags) ≡ new = lent_whole flags new (c.put_flag.auto.flags ∙ ap (λ (fs : List FileFlags). length fs) c.as_mut_slice.ensures.value) in
    ap (λ (fs : List FileFlags). key_set (rest ++ flagged_keys 0 fs)) (whole ∙ put)
    ∙ key-removed others rest flags key left
    ∙ ap (λ (set : List SelectionKey). without_key set key) c.self.view_is
