use Rattle.std.proofs.Common.{◌∙◌, ◌||◌, Bool, List, ap, ap₂, sym, rules}
use Rattle.scm_types.specs.declared.keys.SelectionKey.{SelectionKey}
use Rattle.scm_selection.specs.KeySet.{has_key}
use Rattle.scm_selection.specs.KeyFlags.{is_flagged}
use Rattle.scm_selection.proofs.KeySetLemmas.{has_key-is}
use Rattle.scm_selection.proofs.KeyFlagLemmas.{kept-has}
use Rattle.scm_selection.proofs.key_set.KeySet.contains.Goals as goal

pub returns : goal.returns
returns c =
    let others = c.self.inside.others.keys in
    let flags = c.self.inside.flags in
    let key = c.args.key in
    ap₂ (λ (a b : Bool). a || b) (c.contains-is_other.ensures ∙ has_key-is key _ (λ k. search rules) others) (c.is_flagged-is_set.ensures ∙ ap (λ fs. is_flagged fs key) c.as_slice.ensures)
    ∙ sym (kept-has others flags key)
    ∙ ap (λ (set : List SelectionKey). has_key set key) c.self.view_is
