use Rattle.scm_layout_index.proofs.OwnerRunLemmas.{header-row}
use Rattle.scm_layout_index.proofs.owner_runs.found_end.Goals as goal

pub returns-then-row-found : goal.returns-then-row-found
returns-then-row-found c =
    rw c.in-Some.is (header-row c.args.width c.in-Some.found c.args.owners.now.row c.args.column _ c.if-row-found.true c.heading_end.ensures.boxes)
