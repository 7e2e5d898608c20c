use Rattle.std.proofs.Common.{ℕ, leb, rules}
use Rattle.std.proofs.lemmas.List.Sorted.{IsPartitionPoint-from_clause, IsPartitionedBy-leb}
use Rattle.scm_layout.proofs.SearchLemmas.{point-is}
use Rattle.scm_layout.proofs.section_stack.tops_to.Goals as goal

pub returns : goal.returns
returns c =
    let parted = IsPartitionedBy-leb (λ (t : ℕ). t) _ c.args.row c.requires in
    let point = IsPartitionPoint-from_clause (λ (t : ℕ). leb t c.args.row) _ _ c.partition_point.ensures.partitioned parted (λ a r q k. search rules) in
    record {
      count = point-is (λ (t : ℕ). leb t c.args.row) c.args.tops.now c.partition_point.result c.partition_point.ensures.bound point;
      most = c.partition_point.ensures.bound;
    }
