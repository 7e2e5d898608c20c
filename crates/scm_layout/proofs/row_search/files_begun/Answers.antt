use Rattle.std.proofs.Common.{leb, rules}
use Rattle.std.proofs.lemmas.List.Sorted.{IsPartitionPoint-from_clause, IsPartitionedBy-leb}
use Rattle.scm_layout.specs.declared.file_rows.FileRows.{FileRows}
use Rattle.scm_layout.proofs.SearchLemmas.{point-is}
use Rattle.scm_layout.proofs.row_search.files_begun.Goals as goal

pub returns : goal.returns
returns c =
    let parted = IsPartitionedBy-leb (λ (r : FileRows). r.top) _ c.args.row c.requires in
    let point = IsPartitionPoint-from_clause (λ (r : FileRows). leb r.top c.args.row) _ _ c.partition_point.ensures.partitioned parted (λ a r q k. search rules) in
    record {
      count = point-is (λ (r : FileRows). leb r.top c.args.row) c.args.files.now c.partition_point.result c.partition_point.ensures.bound point;
      most = c.partition_point.ensures.bound;
    }
