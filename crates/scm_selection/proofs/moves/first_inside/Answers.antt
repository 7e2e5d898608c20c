use Rattle.std.proofs.Common.{◌≡◌, true, false, ap, ◌∙◌}
use Rattle.std.specs.Option.{unwrap_or}
use Rattle.scm_selection.specs.Moves.{is_inside}
use Rattle.scm_selection.specs.KeysAround.{is_key_of}
use Rattle.scm_selection.proofs.RelationLemmas.{inner-there, inner-away}
use Rattle.scm_selection.proofs.moves.first_inside.Goals as goal

pub returns-then-is_key_of : goal.returns-then-is_key_of
returns-then-is_key_of c =
    let there : is_key_of c.args.files.now c.args.selection ≡ true = cc in
    c.unwrap_or.ensures ∙ ap (λ r. unwrap_or r c.args.selection) c.first_after.ensures ∙ inner-there (is_inside c.args.selection) c.args.files.now c.args.selection there

pub returns-else-is_key_of : goal.returns-else-is_key_of
returns-else-is_key_of c =
    let away : is_key_of c.args.files.now c.args.selection ≡ false = cc in
    inner-away (is_inside c.args.selection) c.args.files.now c.args.selection away
