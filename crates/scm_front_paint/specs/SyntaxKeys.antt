-- The order of the keys of lines, by which a map has them.
use Rattle.std.specs.declared.cmp.Ordering.{Ordering}
use Rattle.scm_types.specs.declared.keys.LineKey.{LineKey}
use Rattle.scm_types.specs.contracts.keys.LineKeyOrd.TheImpl as order

abbrev pub line_order : LineKey → LineKey → Ordering
line_order = order.ghosts.cmp
