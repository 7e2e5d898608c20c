use Rattle.std.proofs.Common.{◌≡◌, ◌++◌, take, drop, length, map}
use Rattle.scm_types.specs.declared.file.File.{File}
use Rattle.scm_layout.specs.declared.file_rows.FileRows.{FileRows}
use Rattle.scm_layout.specs.Rows.{each_file_rows}
use Rattle.scm_layout.proofs.state_rows.refold_files.Given as goal

-- the rows so far and those of the files that are left are all; the others are as they were
abbrev pub invariant-loop-file_idx : goal.invariant-loop-file_idx
invariant-loop-file_idx l =
    record {
      rows : take l.file_idx l.rows ++ each_file_rows l.unfolded.keys.now l.commit_idx l.file_idx (drop l.file_idx l.files) ≡ each_file_rows l.unfolded.keys.now l.commit_idx 0 l.files;
      lengths : map (λ (r : FileRows). length r.sections) (drop l.file_idx l.rows) ≡ map (λ (f : File). length f.sections) (drop l.file_idx l.files);
    }
