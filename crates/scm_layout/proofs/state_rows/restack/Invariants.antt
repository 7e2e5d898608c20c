use Rattle.std.proofs.Common.{◌≡◌, ◌+◌, ◌++◌, take, drop}
use Rattle.scm_layout.specs.Rows.{stacked}
use Rattle.scm_layout.specs.Refolds.{total_height}
use Rattle.scm_layout.proofs.state_rows.restack.Given as goal

-- the files so far are moved, and the others go below them
abbrev pub invariant-loop-index : goal.invariant-loop-index
invariant-loop-index l =
    record {
      rows : take l.index l.rows ++ stacked l.next (drop l.index l.rows) ≡ stacked l.top l.fn.rows;
      height : l.next + total_height (drop l.index l.rows) ≡ l.top + total_height l.fn.rows;
    }
