use Rattle.std.proofs.Common.{◌≡◌, ◌∙◌, ◌++◌, true, List, ap, drop, length, sym, take, rules}
use Rattle.scm_types.specs.declared.keys.SelectionKey.{SelectionKey}
use Rattle.scm_selection.specs.declared.key_flags.FileFlags.{FileFlags}
use Rattle.scm_selection.specs.KeySet.{key_set, with_key}
use Rattle.scm_selection.specs.KeyFlags.{flagged_keys, has_flag, with_flag}
use Rattle.scm_selection.proofs.KeySetLemmas.{with_key-is}
use Rattle.scm_selection.proofs.KeyFlagLemmas.{flag-added, other-added}
use Rattle.scm_selection.proofs.ToggleLemmas.{lent_whole}
use Rattle.scm_selection.proofs.key_set.KeySet.insert.Goals as goal

pub returns-then-has_flag-clause-ok : goal.returns-then-has_flag-clause-ok
returns-then-has_flag-clause-ok c =
    let others = c.self.inside.others.keys in
    let flags = c.self.inside.flags in
    let key = c.args.key in
    let new = c.put_flag.new.flags in
    let there : has_flag flags key ≡ true = ap (λ (fs : List FileFlags). has_flag fs key) (sym c.as_slice.ensures) ∙ sym c.has_flag.ensures ∙ c.if-has_flag.true in
    let put : new ≡ with_flag true flags key = c.put_flag.ensures ∙ ap (λ (fs : List FileFlags). with_flag true fs key) c.as_mut_slice.ensures.value in
    let whole : take (length flags) (new ++ drop (length new) flags) ≡ new = lent_whole flags new (c.put_flag.auto.flags ∙ ap (λ (fs : List FileFlags). length fs) c.as_mut_slice.ensures.value) in
    ap (λ (fs : List FileFlags). key_set (others ++ flagged_keys 0 fs)) (whole ∙ put)
    ∙ flag-added others flags key there
    ∙ ap (λ (set : List SelectionKey). with_key set key) c.self.view_is

pub returns-clause-ok : goal.returns-clause-ok
returns-clause-ok c =
    let others = c.self.inside.others.keys in
    let flags = c.self.inside.flags in
    let key = c.args.key in
    ap (λ (ks : List SelectionKey). key_set (ks ++ flagged_keys 0 flags)) (c.in_ok-insert.ensures.keys ∙ with_key-is _ (λ a b. search rules) others key)
    ∙ other-added others flags key
    ∙ ap (λ (set : List SelectionKey). with_key set key) c.self.view_is
