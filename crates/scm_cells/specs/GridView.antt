-- The fields of `Grid` as a screen.
use Rattle.std.specs.Prelude.{◌≡◌, length}
use Rattle.scm_cells.specs.Screen.{Screen, IsScreen}
use Rattle.scm_cells.specs.declared.grid.Grid.TheInside.{Inside}

-- the fields of `Grid` as a screen
abbrev pub screen_of : Inside → Screen
screen_of g = record { width = g.width; rows = g.rows.items; counts = record { rows = g.rows_drawn; calls = g.calls } }

-- each row of the grid has its width, and whole symbols; the laid columns have its width
abbrev pub HasRows : Inside → Type 0
HasRows g = record { screen : IsScreen (screen_of g); laid : length g.laid.items ≡ g.width }
