use Rattle.scm_merge.proofs.records.merge_records.Goals as goal

pub returns : goal.returns
returns c = c.records_of_texts.ensures c.args.base.now c.args.ours.now c.args.theirs.now c.in_ok-texts.ensures
