use Rattle.std.proofs.Common.{◌≡◌, take, string_bytes}
use Rattle.std.specs.List.{flat_map}
use Rattle.scm_cells.specs.Row.{row_text}
use Rattle.scm_cells.proofs.grid.Grid.view.Given as goal

abbrev pub invariant-rows : goal.invariant-rows
invariant-rows l = string_bytes l.text ≡ flat_map row_text (take l.cells-index l.cells-items)
