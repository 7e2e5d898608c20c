use Rattle.std.proofs.Common.{ℕ, ◌<◌, ◌≤◌, Some, map, ap, sym, ◌∙◌, refl, subst}
use Rattle.scm_types.proofs.EditLemmas.{map-slice_set, map-modify, modify-past}
use Rattle.scm_input.proofs.screens.put_at.Goals as goal

pub returns-then-place-len : goal.returns-then-place-len
returns-then-place-len c = map-slice_set _ _ c.args.texts.now.items c.args.place c.index_mut.result.now (Some c.args.text) (subst (λ (n : ℕ). c.args.place < n) (c.len.ensures ∙ c.args.texts.now.ok.0) c.if-place-len.true) refl

pub returns-else-place-len : goal.returns-else-place-len
returns-else-place-len c =
    let past = subst (λ (n : ℕ). n ≤ c.args.place) (c.len.ensures ∙ c.args.texts.now.ok.0) c.if-place-len.false in
    ap (map _) (sym (modify-past (λ _. Some c.args.text) c.args.texts.now.items c.args.place past)) ∙ map-modify _ (λ _. Some c.args.text) _ c.args.texts.now.items c.args.place (λ _. refl)
