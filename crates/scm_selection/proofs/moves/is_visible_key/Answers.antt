use Rattle.std.proofs.Common.{◌≡◌, ◌&&◌, ◌∙◌, ap, sym, true, false}
use Rattle.scm_selection.specs.KeySet.{has_key}
use Rattle.scm_selection.specs.KeyLists.{is_visible}
use Rattle.scm_selection.specs.KeysAround.{is_key_of}
use Rattle.scm_selection.proofs.WalkLemmas.{among-kept}
use Rattle.scm_selection.proofs.moves.is_visible_key.Goals as goal

pub returns-then-is_key_of : goal.returns-then-is_key_of
returns-then-is_key_of c =
    let visible = is_visible (has_key c.args.expanded.now) in
    let there : is_key_of c.args.files.now c.args.key ≡ true = sym c.is_key_of.ensures ∙ c.if-is_key_of.true in
    c.is_visible.ensures ∙ ap (λ b. b && visible c.args.key) (sym there) ∙ among-kept visible c.args.files.now c.args.key

pub returns-else-is_key_of : goal.returns-else-is_key_of
returns-else-is_key_of c =
    let visible = is_visible (has_key c.args.expanded.now) in
    let away : is_key_of c.args.files.now c.args.key ≡ false = sym c.is_key_of.ensures ∙ c.if-is_key_of.false in
    c.if-is_key_of.false ∙ ap (λ b. b && visible c.args.key) (sym away) ∙ among-kept visible c.args.files.now c.args.key
