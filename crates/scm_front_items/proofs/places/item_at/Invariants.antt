use Rattle.std.proofs.Common.{◌≡◌, None, Option, drop}
use Rattle.std.specs.Prelude.{fold}
use Rattle.scm_types.specs.declared.keys.SelectionKey.{SelectionKey}
use Rattle.scm_selection.specs.KeySet.{has_key}
use Rattle.scm_front_items.specs.Places.{is_stop, way_of}
use Rattle.scm_front_items.specs.Search.{kept}
use Rattle.scm_front_items.proofs.places.item_at.Given as goal

-- what is found in the keys that are left, after those before them, is found in all
abbrev pub invariant-loop-index : goal.invariant-loop-index
invariant-loop-index l =
    fold (λ (found : Option SelectionKey) (key : SelectionKey). kept l.way found key (is_stop l.place (has_key l.expanded) l.selection key)) l.found (drop l.index l.keys)
    ≡ fold (λ (found : Option SelectionKey) (key : SelectionKey). kept (way_of l.place) found key (is_stop l.place (has_key l.expanded) l.selection key)) None l.keys
