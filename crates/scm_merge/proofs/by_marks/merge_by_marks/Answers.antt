use Rattle.scm_merge.proofs.by_marks.merge_by_marks.Goals as goal

pub returns : goal.returns
returns c = c.merged_texts.ensures c.args.base.now c.args.ours.now c.args.theirs.now c.in_ok-texts.ensures
