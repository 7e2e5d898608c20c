use Rattle.std.proofs.Common.{◌≡◌, ◌∙◌, IsTrue, Bool, refl, true, false, not, sym, ap}
use Rattle.scm_selection.specs.KeyLists.{all_keys, file_key, is_line}
use Rattle.scm_selection.specs.KeySet.{has_key}
use Rattle.scm_selection.specs.Moves.{inner_key}
use Rattle.scm_view_state.proofs.LineSetLemmas.{lacks-key, line-there}
use Rattle.scm_view_state.proofs.line_keys.lacks_first_line.Goals as goal

none-there : (b : Bool) → IsTrue (not b) → b ≡ false
none-there false h = refl
none-there true h = absurd (cc h)

pub returns-in-Line : goal.returns-in-Line
returns-in-Line c =
    λ lacks.
    let ks = all_keys c.args.files.now in
    let line : c.first_inside-line.result ≡ inner_key ks (inner_key ks (file_key 0)) =
    c.first_inside-line.ensures ∙ ap (inner_key ks) (c.first_inside-section.ensures ∙ ap (inner_key ks) c.file_key.ensures) in
    let is : is_line (inner_key ks (inner_key ks (file_key 0))) ≡ true = ap is_line (sym line ∙ c.in-Line.is) in
    lacks-key c.args.expanded.now ks (inner_key ks (inner_key ks (file_key 0))) (line-there ks (file_key 0) refl is)
    (ap (has_key c.args.expanded.now) (sym line) ∙ sym c.contains.ensures ∙ none-there c.contains.result lacks)
