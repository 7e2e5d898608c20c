use Rattle.std.proofs.Common.{◌≡◌, ◌&&◌, true, false, ap, sym, ◌∙◌}
use Rattle.std.specs.Option.{unwrap_or}
use Rattle.scm_selection.specs.KeySet.{has_key}
use Rattle.scm_selection.specs.KeyLists.{is_visible}
use Rattle.scm_selection.specs.KeysAround.{is_key_of}
use Rattle.scm_selection.proofs.RelationLemmas.{previous-there, previous-away, and-left, and-right}
use Rattle.scm_selection.proofs.WalkLemmas.{among-kept}
use Rattle.scm_selection.proofs.moves.previous_visible.Goals as goal

pub returns-then-is_visible_key : goal.returns-then-is_visible_key
returns-then-is_visible_key c =
    let both : ((is_key_of c.args.files.now c.args.selection) && (is_visible (has_key c.args.expanded.now) c.args.selection)) ≡ true = among-kept (is_visible (has_key c.args.expanded.now)) c.args.files.now c.args.selection ∙ sym c.is_visible_key.ensures ∙ c.if-is_visible_key.true in
    let there : is_key_of c.args.files.now c.args.selection ≡ true = and-left (is_key_of c.args.files.now c.args.selection) (is_visible (has_key c.args.expanded.now) c.args.selection) both in
    let visible : is_visible (has_key c.args.expanded.now) c.args.selection ≡ true = and-right (is_key_of c.args.files.now c.args.selection) (is_visible (has_key c.args.expanded.now) c.args.selection) both in
    c.unwrap_or.ensures ∙ ap (λ r. unwrap_or r c.args.selection) c.last_before.ensures ∙ previous-there (is_visible (has_key c.args.expanded.now)) c.args.files.now c.args.selection c.args.otherwise there visible

pub returns-else-is_visible_key : goal.returns-else-is_visible_key
returns-else-is_visible_key c =
    let hidden : (is_key_of c.args.files.now c.args.selection && is_visible (has_key c.args.expanded.now) c.args.selection) ≡ false = among-kept (is_visible (has_key c.args.expanded.now)) c.args.files.now c.args.selection ∙ sym c.is_visible_key.ensures ∙ c.if-is_visible_key.false in
    previous-away (is_visible (has_key c.args.expanded.now)) c.args.files.now c.args.selection c.args.otherwise hidden
