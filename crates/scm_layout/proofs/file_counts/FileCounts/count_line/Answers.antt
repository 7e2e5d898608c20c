use Rattle.std.proofs.Common.{◌∙◌, arith}
use Rattle.scm_types.proofs.LimitLemmas.{items_room}
use Rattle.scm_layout.proofs.CountLemmas.{follow-counts, follow-fits, follow-lengths, line-checked, line-total}
use Rattle.scm_layout.proofs.file_counts.FileCounts.count_line.Goals as goal

pub count_this_line-requires : goal.count_this_line-requires
count_this_line-requires c = record {
  file = omega (arith, items_room, line-checked _ _ _ _ c.requires);
  sections = omega (arith, items_room, line-total _ _ _ _ c.requires);
}

pub follow_line-requires : goal.follow_line-requires
follow_line-requires c = record {
  lengths = follow-lengths _ _ _ _ c.requires _ c.count_this_line.ensures;
  fits = follow-fits _ _ _ _ c.requires _ c.count_this_line.ensures;
}

pub returns : goal.returns
returns c = c.follow_line.ensures ∙ follow-counts _ _ _ _ c.requires _ c.count_this_line.ensures
