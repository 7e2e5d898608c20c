use Rattle.std.proofs.Common.{◌≡◌, ◌++◌, drop, take}
use Rattle.scm_layout_index.proofs.shared_rows.renew_files.Given as goal

-- the files so far are as they should be; the others are as they were
abbrev pub invariant-loop-index : goal.invariant-loop-index
invariant-loop-index l =
    record {
      done : take l.index l.own ++ drop l.index l.rows ≡ l.rows;
      left : drop l.index l.own ≡ drop l.index l.fn.own;
    }
