use Rattle.scm_merge.proofs.MergeLemmas.{bytes-by-choice}
use Rattle.scm_merge.proofs.laws.choice_gives_its_bytes.Goals as goal

pub returns : goal.returns
returns c = bytes-by-choice c.args.path.now c.args.mode c.args.base.now c.args.ours.now c.args.theirs.now c.args.file.now c.requires
