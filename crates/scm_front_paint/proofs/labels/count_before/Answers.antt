use Rattle.std.proofs.Common.{rules}
use Rattle.std.proofs.lemmas.List.Sorted.{IsPartitionPoint-from_clause}
use Rattle.scm_front_paint.specs.declared.labels.Label.{Label}
use Rattle.scm_front_paint.specs.Labels.{is_before}
use Rattle.scm_front_paint.proofs.LabelOrderLemmas.{parted}
use Rattle.scm_front_paint.proofs.labels.count_before.Goals as goal

pub returns-clause-point : goal.returns-clause-point
returns-clause-point c =
    IsPartitionPoint-from_clause (λ (l : Label). is_before c.args.file c.args.section l) _ _ c.partition_point.ensures.partitioned
    (parted c.args.file c.args.section c.args.labels.now c.requires) (λ a r q k. search rules)
