use Rattle.std.proofs.Common.{◌≡◌, ◌<◌, length, arith}
use Rattle.std.proofs.lemmas.Bool.Decides.{nat_tests}
use Rattle.scm_cells.proofs.PrintableLemmas.{bytes_as_clusters-none, bytes_as_clusters-more}
use Rattle.scm_cells.proofs.text.PrintableNextCluster.next_cluster.Goals as goal

pub returns-then-is_empty-clause-steps : goal.returns-then-is_empty-clause-steps
returns-then-is_empty-clause-steps c =
    let empty : length c.args.self.now.text.now ≡ 0 = grind (arith, nat_tests) in
    let none = bytes_as_clusters-none _ empty in
    (none, none)

pub returns-clause-steps : goal.returns-clause-steps
returns-clause-steps c =
    let some : 0 < length c.args.self.now.text.now = grind (arith, nat_tests) in
    bytes_as_clusters-more _ _ _ some c.split_at.ensures.front c.split_at.ensures.back
