use Rattle.std.proofs.Common.{length}
use Rattle.std.specs.Str.Iter.{chars_rest}
use Rattle.scm_strips.proofs.CountedLemmas.{HasCounted}
use Rattle.scm_strips.proofs.widths.pieces_width.Given as goal

abbrev pub invariant-characters : goal.invariant-characters
invariant-characters l = HasCounted l.line l.start l.read l.width (chars_rest l.rest)

abbrev pub decreases-characters : goal.decreases-characters
decreases-characters l = length (chars_rest l.rest)
