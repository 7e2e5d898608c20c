use Rattle.scm_merge.proofs.MergeLemmas.{taken-lines}
use Rattle.scm_merge.proofs.laws.merge_has_the_taken_lines.Goals as goal

pub returns : goal.returns
returns c = taken-lines c.args.path.now c.args.mode c.args.base.now c.args.ours.now c.args.theirs.now c.args.file.now c.args.marked.now c.requires.merge c.requires.same
