use Rattle.std.proofs.Common.{length}
use Rattle.std.specs.Str.Iter.{chars_rest}
use Rattle.scm_cells.proofs.FrameTextLemmas.{IsFrameTo}
use Rattle.scm_cells.proofs.frame_text.frame_width.Given as goal

abbrev pub invariant-characters : goal.invariant-characters
invariant-characters l = IsFrameTo l.text l.width (chars_rest l.rest)

abbrev pub decreases-characters : goal.decreases-characters
decreases-characters l = length (chars_rest l.rest)
