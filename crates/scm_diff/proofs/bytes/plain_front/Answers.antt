use Rattle.std.proofs.Common.{◌≡◌, ap, sym, ◌∙◌, take, true, false, inl, inr}
use Rattle.scm_diff.specs.Bytes.{is_plain, plain_len}
use Rattle.scm_diff.proofs.ByteLemmas.{plain-take, zero-or-more}
use Rattle.scm_diff.proofs.bytes.plain_front.Goals as goal

pub returns-in-None-clause-none : goal.returns-in-None-clause-none
returns-in-None-clause-none c =
    let bs = c.args.bytes.now in
    elim (zero-or-more (plain_len bs)) [
      | inl e ↦ e
      | inr p ↦
          (let front_is : c.front.result.now ≡ take (plain_len bs) bs = c.front.ensures ∙ ap (λ n. take n bs) c.plain_len-len.ensures in
          let wrong : true ≡ false = sym (plain-take bs p) ∙ ap is_plain (sym front_is) ∙ c.in-None.ensures.none in cc)
    ]

pub returns-in-Some-clause-text : goal.returns-in-Some-clause-text
returns-in-Some-clause-text c = c.in-Some.ensures.some.0 ∙ c.front.ensures ∙ ap (λ n. take n c.args.bytes.now) c.plain_len-len.ensures
