use Rattle.scm_merge.proofs.OriginLemmas.{lines-woven}
use Rattle.scm_merge.proofs.laws.merge_lines_are_woven.Goals as goal

pub returns : goal.returns
returns c = lines-woven c.args.path.now c.args.mode c.args.base.now c.args.ours.now c.args.theirs.now c.args.file.now c.args.marked.now c.requires.merge c.requires.same
