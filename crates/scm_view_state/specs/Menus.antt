-- The menus: the label of each item and its event. Menus and items count from 0.
use Rattle.std.specs.Prelude.{ℕ, ◌==◌, List, [], ◌∷◌, map, true, false, Option, codes, option_map, slice_get, if◌then◌else◌}
use Rattle.std.specs.Borrow.{Bor}
use Rattle.scm_overlay.specs.declared.menu.MenuItem.{MenuItem}
use Rattle.scm_overlay.specs.declared.menu.Menu.{Menu}
use Rattle.scm_overlay.specs.Tables.{item}
use Rattle.scm_input.specs.declared.events.Event.{Event}
use Rattle.scm_input.specs.declared.events.Event.TheVariants as events

-- an item of a menu
pub record Item : Type 0 where
  -- the text, without brackets
  pub label : List ℕ
  -- the event of a click on it
  pub event : Event

-- an item, as a row of the tables below
abbrev pub row : List ℕ → Event → Item
row label event = record { label = label; event = event }

-- the items of the menu `File`
abbrev pub file_items : List Item
file_items =
    row (codes "Confirm (c)") events.QuitAccept
    ∷ row (codes "Quit (q)") events.QuitCancel
    ∷ []

-- the items of the menu `Edit`
abbrev pub edit_items : List Item
edit_items =
    row (codes "Edit message (e)") events.EditCommitMessage
    ∷ row (codes "Toggle current (space)") events.ToggleItem
    ∷ row (codes "Toggle current and advance (enter)") events.ToggleItemAndAdvance
    ∷ row (codes "Invert all items (a)") events.ToggleAll
    ∷ row (codes "Invert all items uniformly (A)") events.ToggleAllUniform
    ∷ []

-- the items of the menu `Select`
abbrev pub select_items : List Item
select_items =
    row (codes "Previous item (up, k)") events.FocusPrev
    ∷ row (codes "Next item (down, j)") events.FocusNext
    ∷ row (codes "Previous item of the same kind (page-up)") events.FocusPrevSameKind
    ∷ row (codes "Next item of the same kind (page-down)") events.FocusNextSameKind
    ∷ row (codes "Outer item without folding (shift-left, shift-h)") (events.FocusOuter false)
    ∷ row (codes "Outer item with folding (left, h)") (events.FocusOuter true)
    ∷ row (codes "Inner item with unfolding (right, l)") events.FocusInner
    ∷ row (codes "Previous page (ctrl-u)") events.FocusPrevPage
    ∷ row (codes "Next page (ctrl-d)") events.FocusNextPage
    ∷ []

-- the items of the menu `View`
abbrev pub view_items : List Item
view_items =
    row (codes "Fold/unfold current (f)") events.ExpandItem
    ∷ row (codes "Fold/unfold all (F)") events.ExpandAll
    ∷ row (codes "Scroll up (ctrl-up, ctrl-y)") events.ScrollUp
    ∷ row (codes "Scroll down (ctrl-down, ctrl-e)") events.ScrollDown
    ∷ row (codes "Previous page (ctrl-page-up, ctrl-b)") events.PageUp
    ∷ row (codes "Next page (ctrl-page-down, ctrl-f)") events.PageDown
    ∷ []

-- the items of menu `menu`, or none if there is no such menu
abbrev pub items_of_menu : ℕ → List Item
items_of_menu menu =
    if menu == 0 then file_items
    else if menu == 1 then edit_items
    else if menu == 2 then select_items
    else if menu == 3 then view_items
    else []

-- the items of the labels and events that the code has
abbrev pub items_in : List (Bor (List ℕ) × Event) → List Item
items_in rows = map (λ (r : Bor (List ℕ) × Event). row r.0.now r.1) rows

-- the items as a menu has them: labels alone
abbrev pub menu_items : List Item → List MenuItem
menu_items items = map (λ (t : Item). item t.label) items

-- the menu with a label and items
abbrev pub menu_of : List ℕ → List Item → Menu
menu_of label items = record { label = label; items = menu_items items }

-- the event of item `item` of menu `menu`, if there is one
abbrev pub event_of_item : ℕ → ℕ → Option Event
event_of_item menu item = option_map (λ (t : Item). t.event) (slice_get (items_of_menu menu) item)
