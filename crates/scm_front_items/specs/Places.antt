-- Moves of the selection to a place: an end of the document, or the next section or file.
use Rattle.std.specs.Prelude.{Bool, true, ◌&&◌, List, fold, Option, None, unwrap_or}
use Rattle.scm_types.specs.declared.file.File.{File}
use Rattle.scm_types.specs.declared.keys.SelectionKey.{SelectionKey}
use Rattle.scm_selection.specs.KeyLists.{all_keys, is_file, is_section, is_visible}
use Rattle.scm_front_items.specs.declared.items.Way.{Way}
use Rattle.scm_front_items.specs.declared.items.Way.TheVariants.{Up, Down}
use Rattle.scm_front_items.specs.declared.places.Place.{Place}
use Rattle.scm_front_items.specs.declared.places.Place.TheVariants as places
use Rattle.scm_front_items.specs.Search.{is_towards, kept}

-- a move to the first item, or to one below the selection, stops at the first item that will do; any other at the last one
abbrev pub way_of : Place → Way
way_of places.First = Down
way_of places.Last = Up
way_of (places.Section way) = way
way_of (places.File way) = way

-- whether a move from the selection may stop at a key. The last item is one that is not folded away; a section may be.
abbrev pub is_stop : Place → (SelectionKey → Bool) → SelectionKey → SelectionKey → Bool
is_stop places.First is_expanded selection key = true
is_stop places.Last is_expanded selection key = is_visible is_expanded key
is_stop (places.Section way) is_expanded selection key = is_section key && is_towards way selection key
is_stop (places.File way) is_expanded selection key = is_file key && is_towards way selection key

-- of keys in the order of the screen the one at which a move stops, if there is one
abbrev pub item_at : Place → (SelectionKey → Bool) → List SelectionKey → SelectionKey → Option SelectionKey
item_at place is_expanded keys selection =
    fold (λ (found : Option SelectionKey) (key : SelectionKey). kept (way_of place) found key (is_stop place is_expanded selection key)) None keys

-- what is selected after a move: the selection stays if there is no such item
abbrev pub moved_to : Place → (SelectionKey → Bool) → List File → SelectionKey → SelectionKey
moved_to place is_expanded files selection = unwrap_or (item_at place is_expanded (all_keys files) selection) selection
