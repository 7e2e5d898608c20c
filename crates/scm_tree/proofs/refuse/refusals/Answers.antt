use Rattle.std.proofs.Common.{◌≡◌, ℕ, List, length, replicate, Option, None, rules, sym, subst, ◌∙◌, ap}
use Rattle.scm_tree.specs.declared.scan.Refusal.{Refusal}
use Rattle.scm_tree.specs.Rows.{AreRows}
use Rattle.scm_tree.specs.Refusals.{AreSound}
use Rattle.scm_tree.proofs.RefusalLemmas.{sound_none}
use Rattle.scm_tree.proofs.refuse.refusals.Goals as goal

pub refuse_all-requires-clause-rows : goal.refuse_all-requires-clause-rows
refuse_all-requires-clause-rows c =
    subst (λ (n : ℕ). AreRows n c.args.rows.now) (sym (c.as_mut_slice.ensures.len ∙ c.in_ok-refused.ensures.len)) c.requires

pub refuse_all-requires-clause-sound : goal.refuse_all-requires-clause-sound
refuse_all-requires-clause-sound c =
    let none : c.in_ok-refused.refused.items ≡ replicate c.args.count None = c.in_ok-refused.ensures.items_if_clones_equal (search rules) in
    subst (λ (os : List (Option Refusal)). AreSound c.args.rows.now os) (sym (c.as_mut_slice.ensures.value ∙ none)) (sound_none c.args.rows.now c.args.count)
