use Rattle.scm_types.proofs.LineLemmas.{keeps_every_line}
use Rattle.scm_types.proofs.laws.split_keeps_lines.Goals as goal

pub returns : goal.returns
returns c = keeps_every_line c.args.file.now
