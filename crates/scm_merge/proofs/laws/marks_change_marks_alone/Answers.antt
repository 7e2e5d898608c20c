use Rattle.scm_embed.proofs.MarkedLemmas.{file-same}
use Rattle.scm_merge.proofs.laws.marks_change_marks_alone.Goals as goal

pub returns : goal.returns
returns c = file-same c.args.marks.now c.args.file.now
