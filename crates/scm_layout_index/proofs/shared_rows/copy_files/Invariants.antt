use Rattle.std.proofs.Common.{◌≡◌, take}
use Rattle.scm_layout_index.proofs.shared_rows.copy_files.Given as goal

abbrev pub invariant-loop-row : goal.invariant-loop-row
invariant-loop-row l = l.copy.items ≡ take l.row-index l.rows
