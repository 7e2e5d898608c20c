-- A click on the box of an item: the first one selects the item, and the second one acts on the box.
use Rattle.std.specs.Prelude.{ℕ, Bool, false, not, ◌&&◌, Option, Some, None}
use Rattle.scm_types.specs.declared.keys.SelectionKey.{SelectionKey}
use Rattle.scm_types.specs.declared.keys.SelectionKey.TheVariants as keys
use Rattle.scm_types.specs.Keys.{is_key}
use Rattle.scm_widgets.specs.declared.ids.ComponentId.{ComponentId}
use Rattle.scm_widgets.specs.declared.ids.ComponentId.TheVariants as ids
use Rattle.scm_record.specs.FrameQueries.{hit}
use Rattle.scm_record.specs.Frames.{scene_of}
use Rattle.scm_record.specs.Live.{Live}
use Rattle.scm_record.specs.declared.live.Turn.{Turn}
use Rattle.scm_record.specs.declared.live.Turn.TheVariants as turns
use Rattle.scm_front.specs.declared.clicking.ItemBox.{ItemBox}
use Rattle.scm_front.specs.declared.clicking.ItemBox.TheVariants.{Absent, Mark, Fold}

-- the box of an item that a component is, if it is one
abbrev pub box_of : Option ComponentId → ItemBox
box_of None = Absent
box_of (Some (ids.ToggleBox key)) = Mark key
box_of (Some (ids.ExpandBox key)) = Fold key
box_of (Some ids.App) = Absent
box_of (Some ids.AppFiles) = Absent
box_of (Some ids.CommitMessageView) = Absent
box_of (Some (ids.CommitEditMessageButton commit)) = Absent
box_of (Some ids.MenuBar) = Absent
box_of (Some ids.MenuHeader) = Absent
box_of (Some (ids.Menu menu)) = Absent
box_of (Some (ids.MenuItem item)) = Absent
box_of (Some (ids.SelectableItem key)) = Absent
box_of (Some (ids.FileViewHeader key)) = Absent
box_of (Some ids.QuitDialog) = Absent
box_of (Some (ids.QuitDialogButton button)) = Absent
box_of (Some ids.HelpDialog) = Absent
box_of (Some ids.HelpDialogQuitButton) = Absent

-- the box that a click at `row` and `column` of the screen hits, if it hits one
abbrev pub box_at : Live → ℕ → ℕ → ItemBox
box_at l row column = box_of (hit (scene_of l.kind l.session) l.session.scroll row column)

-- the item of a component that a click can select, or none
abbrev pub item_of : Option ComponentId → SelectionKey
item_of None = keys.None
item_of (Some (ids.ToggleBox key)) = key
item_of (Some (ids.ExpandBox key)) = key
item_of (Some (ids.SelectableItem key)) = key
item_of (Some (ids.FileViewHeader key)) = keys.File key
item_of (Some ids.App) = keys.None
item_of (Some ids.AppFiles) = keys.None
item_of (Some ids.CommitMessageView) = keys.None
item_of (Some (ids.CommitEditMessageButton commit)) = keys.None
item_of (Some ids.MenuBar) = keys.None
item_of (Some ids.MenuHeader) = keys.None
item_of (Some (ids.Menu menu)) = keys.None
item_of (Some (ids.MenuItem item)) = keys.None
item_of (Some ids.QuitDialog) = keys.None
item_of (Some (ids.QuitDialogButton button)) = keys.None
item_of (Some ids.HelpDialog) = keys.None
item_of (Some ids.HelpDialogQuitButton) = keys.None

-- the item that a click at `row` and `column` of the screen hits, or none
abbrev pub item_at : Live → ℕ → ℕ → SelectionKey
item_at l row column = item_of (hit (scene_of l.kind l.session) l.session.scroll row column)

-- whether a click on a box merely selects its item: another item is selected
abbrev pub merely_selects : SelectionKey → ItemBox → Bool
merely_selects selection Absent = false
merely_selects selection (Mark key) = not (is_key key selection)
merely_selects selection (Fold key) = not (is_key key selection)

-- whether the first is a box, and the second is the same box
abbrev pub is_same_box : ItemBox → ItemBox → Bool
is_same_box Absent other = false
is_same_box (Mark key) Absent = false
is_same_box (Mark key) (Mark other) = is_key key other
is_same_box (Mark key) (Fold other) = false
is_same_box (Fold key) Absent = false
is_same_box (Fold key) (Mark other) = false
is_same_box (Fold key) (Fold other) = is_key key other

-- whether a click that led from `l` to `next` merely selected the item of a box, which is at the place of the click then
abbrev pub is_half : Live → Live → ℕ → ℕ → Bool
is_half l next row column = merely_selects l.session.shown.selection (box_at l row column) && is_same_box (box_at l row column) (box_at next row column)

-- the same by the turn to which the click led
abbrev pub is_half_at : Live → Turn → ℕ → ℕ → Bool
is_half_at l (turns.Waiting next) row column = is_half l next row column
is_half_at l (turns.Editing a) row column = false
is_half_at l (turns.Accepted state) row column = false
