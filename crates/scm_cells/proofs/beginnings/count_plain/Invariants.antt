use Rattle.std.proofs.Common.{length}
use Rattle.std.specs.Str.Iter.{chars_rest}
use Rattle.scm_cells.proofs.ReplacedLemmas.{HasRead}
use Rattle.scm_cells.proofs.beginnings.count_plain.Given as goal

abbrev pub invariant-characters : goal.invariant-characters
invariant-characters l = HasRead l.line l.read (chars_rest l.rest)

abbrev pub decreases-characters : goal.decreases-characters
decreases-characters l = length (chars_rest l.rest)
