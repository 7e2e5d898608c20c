-- What marks make of a merge, with markers around each conflict that is open.
use Rattle.std.specs.Prelude.{◌≡◌, ℕ, true, false, List, Option, Some, None}
use Rattle.std.specs.Global.{Vec}
use Rattle.scm_types.specs.declared.file.File.{File}
use Rattle.scm_embed.specs.Marked.{marked_file}
use Rattle.scm_diff.specs.Bytes.{text_of_bytes}
use Rattle.scm_merge.specs.declared.labels.Labels.{Labels}
use Rattle.scm_merge.specs.Markers.{bytes_with_markers}
use Rattle.scm_merge.specs.declared.labelled.LabelBytes.{LabelBytes}
use Rattle.scm_merge.specs.Marked.{is_fit}
use Rattle.scm_merge.specs.Records.{IsMergeOfBytes}

-- What the marks make of a file, with markers of at least `least` signs, if they are as many as its items.
abbrev pub IsWithMarkers : ℕ → Labels → List ℕ → File → Option (Vec ℕ) → Type 0
IsWithMarkers least labels marks file None = is_fit marks file ≡ false
IsWithMarkers least labels marks file (Some bytes) =
    (is_fit marks file ≡ true) × (bytes.items ≡ bytes_with_markers least labels (marked_file marks file))

-- The same with labels as bytes.
pub record IsLabelled (least : ℕ) (given : LabelBytes) (marks : List ℕ) (file : File) (bytes : Option (Vec ℕ)) : Type 0 where
  pub labels : Labels
  pub ours_is : labels.ours.now ≡ text_of_bytes given.ours.now
  pub base_is : labels.base.now ≡ text_of_bytes given.base.now
  pub theirs_is : labels.theirs.now ≡ text_of_bytes given.theirs.now
  pub is_with_markers : IsWithMarkers least labels marks file bytes

-- The same of the merge of three files by their bytes.
pub record IsMergedWithMarkers (least : ℕ) (labels : LabelBytes) (base ours theirs marks : List ℕ) (bytes : Option (Vec ℕ)) : Type 0 where
  pub file : File
  pub is_merge : IsMergeOfBytes base ours theirs file
  pub is_labelled : IsLabelled least labels marks file bytes
