-- The events of menus rank below a click.
use Rattle.std.proofs.Common.{ℕ, zero, suc, ◌≤◌, Bool, true, false, List, [], ◌∷◌, Option, Some, None, cond, slice_get, arith}
use Rattle.std.specs.Prelude.{◌==◌, option_map, option_and_then}
use Rattle.scm_input.specs.declared.events.Event.{Event}
use Rattle.scm_view_state.specs.Menus.{Item, file_items, edit_items, select_items, view_items, items_of_menu, event_of_item}
use Rattle.scm_record.proofs.Budget.{rank}

-- an event, if there is one, that ranks below a click
abbrev pub IsLow : Option Event → Type 0
IsLow None = Unit {0}
IsLow (Some event) = rank event ≤ 1

abbrev AreLow : List Item → Type 0
AreLow [] = Unit {0}
AreLow (item ∷ items) = (rank item.event ≤ 1) × AreLow items

either-low : (b : Bool) (items others : List Item) → AreLow items → AreLow others → AreLow (cond b items others)
either-low true items others h k = h
either-low false items others h k = k

file-low : AreLow file_items
file-low = (omega arith, (omega arith, tt))

edit-low : AreLow edit_items
edit-low = (omega arith, (omega arith, (omega arith, (omega arith, (omega arith, tt)))))

select-low : AreLow select_items
select-low = (omega arith, (omega arith, (omega arith, (omega arith, (omega arith, (omega arith, (omega arith, (omega arith, (omega arith, tt)))))))))

view-low : AreLow view_items
view-low = (omega arith, (omega arith, (omega arith, (omega arith, (omega arith, (omega arith, tt))))))

menu-low : (menu : ℕ) → AreLow (items_of_menu menu)
menu-low menu =
    either-low (menu == 0) file_items (cond (menu == 1) edit_items (cond (menu == 2) select_items (cond (menu == 3) view_items []))) file-low
    (either-low (menu == 1) edit_items (cond (menu == 2) select_items (cond (menu == 3) view_items [])) edit-low
    (either-low (menu == 2) select_items (cond (menu == 3) view_items []) select-low
    (either-low (menu == 3) view_items [] view-low tt)))

one-low : (items : List Item) (i : ℕ) → AreLow items → IsLow (option_map (λ (t : Item). t.event) (slice_get items i))
one-low [] i h = tt
one-low (item ∷ items) zero h = h.0
one-low (item ∷ items) (suc i) h = one-low items i h.1

pub item-low : (menu : Option ℕ) (item : ℕ) → IsLow (option_and_then (λ (m : ℕ). event_of_item m item) menu)
item-low None item = tt
item-low (Some menu) item = one-low (items_of_menu menu) item (menu-low menu)
