use Rattle.std.proofs.Common.{◌≡◌, ◌∙◌, ◌&&◌, true, false, ap, sym}
use Rattle.scm_selection.specs.KeyFlags.{flagged_keys, has_each}
use Rattle.scm_selection.proofs.KeyFlagLemmas.{each-append}
use Rattle.scm_selection.proofs.key_set.has_each_key.Goals as goal

pub returns-then-has_each_of : goal.returns-then-has_each_of
returns-then-has_each_of c =
    let set = c.args.set.now in
    let ks = c.args.others.now.keys in
    let flagged = flagged_keys 0 c.args.flags.now in
    let found : has_each set ks ≡ true = sym c.has_each_of.ensures ∙ c.if-has_each_of.true in
    c.has_each_flagged.ensures ∙ sym (each-append set ks flagged ∙ ap (λ b. b && has_each set flagged) found)

pub returns-else-has_each_of : goal.returns-else-has_each_of
returns-else-has_each_of c =
    let set = c.args.set.now in
    let ks = c.args.others.now.keys in
    let flagged = flagged_keys 0 c.args.flags.now in
    let missed : has_each set ks ≡ false = sym c.has_each_of.ensures ∙ c.if-has_each_of.false in
    c.if-has_each_of.false ∙ sym (each-append set ks flagged ∙ ap (λ b. b && has_each set flagged) missed)
