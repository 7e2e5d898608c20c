use Rattle.scm_diff.proofs.LineLemmas.{concat-lines_of, lines_are_lines, text_of-lines_of}
use Rattle.scm_diff.proofs.laws.lines_are_the_text.Goals as goal

pub returns-clause-joined : goal.returns-clause-joined
returns-clause-joined c = concat-lines_of c.args.text.now

pub returns-clause-by_rule : goal.returns-clause-by_rule
returns-clause-by_rule c = text_of-lines_of c.args.text.now

pub returns-clause-each : goal.returns-clause-each
returns-clause-each c = lines_are_lines c.args.text.now
