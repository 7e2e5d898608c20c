-- The symbols of the code's source of a cut.
use Rattle.scm_front_paint.specs.declared.source.Source.{Source}
use Rattle.scm_front_paint.specs.Labels.{symbols_over}
use Rattle.scm_front_paint.specs.Symbols.{Symbols}

-- those of its grid, with labels over its rows
abbrev pub symbols_in : Source → Symbols
symbols_in s = symbols_over s.labels.now s.grid.now
