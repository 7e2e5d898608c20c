use Rattle.std.proofs.Common.{Some, None, arith, add-one}
use Rattle.std.proofs.lemmas.Str.Pattern.{find_char}
use Rattle.scm_diff.proofs.LineLemmas.{cut_at_end, no_end}
use Rattle.scm_diff.proofs.lines.split_line.Goals as goal

pub returns-in-Some-clause-some : goal.returns-in-Some-clause-some
returns-in-Some-clause-some c =
    let found = find_char 10 c.args.text.now (Some c.in-Some.end) c.in-Some.ensures.cases (omega arith) in
    rw (c.split_at.ensures.front, c.split_at.ensures.back, add-one) (cut_at_end c.args.text.now c.in-Some.end found.0 found.1 found.2)

pub returns-in-None-clause-none : goal.returns-in-None-clause-none
returns-in-None-clause-none c = no_end c.args.text.now (find_char 10 c.args.text.now None c.in-None.ensures.cases (omega arith))
