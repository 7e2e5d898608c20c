use Rattle.scm_merge.proofs.labelled.merge_with_markers.Goals as goal

pub returns : goal.returns
returns c = c.labelled_texts.ensures c.args.base.now c.args.ours.now c.args.theirs.now c.in_ok-texts.ensures
