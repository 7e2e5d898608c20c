-- An open menu has columns.
use Rattle.std.specs.Prelude.{ℕ, ◌<◌, List, [], ◌∷◌, Option, Some, None}
use Rattle.scm_overlay.specs.declared.menu.MenuItem.{MenuItem}
use Rattle.scm_overlay.specs.declared.menu.Menu.{Menu}
use Rattle.scm_overlay.specs.Menus.{widest_item}

-- the open menu has a column, if it has an item
abbrev pub HasColumns : List MenuItem → Type 0
HasColumns [] = Unit {0}
HasColumns (t ∷ ts) = 0 < widest_item (t ∷ ts)

abbrev pub IsOpenWide : Option (ℕ × Menu) → Type 0
IsOpenWide None = Unit {0}
IsOpenWide (Some m) = HasColumns m.1.items
