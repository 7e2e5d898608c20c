use Rattle.std.proofs.Common.{◌≡◌, ◌++◌, drop, option_map}
use Rattle.serde_json.specs.View.{items_view}
use Rattle.scm_json.specs.Form.{all_of}
use Rattle.scm_json.proofs.from_json.ItemsFromJson.from_json.Given as goal

abbrev pub invariant-loop-value : goal.invariant-loop-value
invariant-loop-value g l =
    all_of g.T.FromJson.form (items_view l.value-items) ≡ option_map (λ (rest : _). l.items.items ++ rest) (all_of g.T.FromJson.form (items_view (drop l.value-index l.value-items)))
