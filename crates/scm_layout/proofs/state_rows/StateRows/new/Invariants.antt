use Rattle.std.proofs.Common.{◌≡◌, ◌++◌, drop}
use Rattle.scm_layout.specs.Rows.{each_file_rows}
use Rattle.scm_layout.proofs.state_rows.StateRows.new.Given as goal

-- the rows so far and those of the files that are left are all
abbrev pub invariant-loop-file_idx : goal.invariant-loop-file_idx
invariant-loop-file_idx l = l.rows.items ++ each_file_rows l.set l.commit_idx l.file_idx (drop l.file_idx l.files) ≡ each_file_rows l.set l.commit_idx 0 l.files
