use Rattle.scm_diff.proofs.WordLemmas.{same-without}
use Rattle.scm_diff.proofs.laws.lines_are_equal_without_spans.Goals as goal

pub returns : goal.returns
returns c = same-without c.args.old.now c.args.new.now c.args.spans.now
