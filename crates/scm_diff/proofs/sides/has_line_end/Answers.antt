use Rattle.std.proofs.Common.{arith}
use Rattle.std.proofs.lemmas.Str.Pattern.{ends_char}
use Rattle.scm_diff.proofs.SideLemmas.{ends-decided}
use Rattle.scm_diff.proofs.sides.has_line_end.Goals as goal

pub returns : goal.returns
returns c = ends-decided c.args.text.now c.ends_with.result (ends_char 10 c.args.text.now c.ends_with.result c.ends_with.ensures.cases (omega arith))
