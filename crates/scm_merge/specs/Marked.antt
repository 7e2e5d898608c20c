-- What marks make of a merge: a byte for each item.
use Rattle.std.specs.Prelude.{◌≡◌, ℕ, ◌==◌, Bool, true, false, List, length, Option, Some, None}
use Rattle.scm_types.specs.declared.file.File.{File}
use Rattle.scm_types.specs.Marks.{file_marks}
use Rattle.scm_embed.specs.Marked.{marked_file}
use Rattle.scm_merge.specs.Merge.{merged_bytes}
use Rattle.scm_merge.specs.Open.{open_conflicts}
use Rattle.scm_merge.specs.declared.by_marks.Merged.{Merged}
use Rattle.scm_merge.specs.Records.{IsMergeOfBytes}

-- whether there are as many marks as items
abbrev pub is_fit : List ℕ → File → Bool
is_fit marks file = length (file_marks file) == length marks

-- What the marks make of a file, if they are as many as its items: the bytes of the merge, and how many conflicts are open.
abbrev pub IsMergedFile : List ℕ → File → Option Merged → Type 0
IsMergedFile marks file None = is_fit marks file ≡ false
IsMergedFile marks file (Some merged) =
    (is_fit marks file ≡ true)
    × (merged.bytes.items ≡ merged_bytes (marked_file marks file))
    × (merged.open ≡ open_conflicts (marked_file marks file))

-- The same of the merge of three files by their bytes.
pub record IsMergedByMarks (base ours theirs marks : List ℕ) (merged : Option Merged) : Type 0 where
  pub file : File
  pub is_merge : IsMergeOfBytes base ours theirs file
  pub is_merged : IsMergedFile marks file merged
