use Rattle.scm_diff.proofs.LineLemmas.{lines_of-text_of}
use Rattle.scm_diff.proofs.laws.joined_lines_stay.Goals as goal

pub returns : goal.returns
returns c = lines_of-text_of c.args.lines.now
