-- What calls tell of a merge.
use Rattle.std.specs.Prelude.{◌≡◌, ℕ, List, length, Option, Some}
use Rattle.scm_c_values.specs.Buffers.{over}
use Rattle.scm_c_values.specs.States.{code_of_found}
use Rattle.std.specs.Global.{Vec}
use Rattle.scm_merge.specs.declared.labelled.LabelBytes.{LabelBytes}
use Rattle.scm_merge.specs.declared.by_marks.Merged.{Merged}
use Rattle.scm_merge.specs.Marked.{IsMergedByMarks}
use Rattle.scm_merge.specs.Records.{ShowsMerge}
use Rattle.scm_merge.specs.WithMarkers.{IsMergedWithMarkers}

-- The records of the merge are written over the buffer, clipped to the buffer's length, and their whole length is told.
pub record TellsMerge (base ours theirs old new : List ℕ) (told : ℕ) : Type 0 where
  pub records : List ℕ
  pub shows : ShowsMerge base ours theirs records
  pub long : told ≡ length records
  pub written : new ≡ over records old

-- The code says whether the marks are as many as the items of the merge.
pub record IsCodeOfMarks (base ours theirs marks : List ℕ) (code : ℕ) : Type 0 where
  pub merged : Option Merged
  pub is_merged : IsMergedByMarks base ours theirs marks merged
  pub code_is : code ≡ code_of_found merged

-- The call returns that code, or 8: an allocation failed.
pub data IsMarkedCode (base ours theirs marks : List ℕ) (code : ℕ) : Type 0 where
  known : IsCodeOfMarks base ours theirs marks code → IsMarkedCode base ours theirs marks code
  no_memory : code ≡ 8 → IsMarkedCode base ours theirs marks code

-- The bytes of the merge by the marks are written over the buffer, clipped to the buffer's length, and their number is told.
pub record TellsMerged (base ours theirs marks old new : List ℕ) (told : ℕ) : Type 0 where
  pub merged : Merged
  pub is_merged : IsMergedByMarks base ours theirs marks (Some merged)
  pub long : told ≡ length merged.bytes.items
  pub written : new ≡ over merged.bytes.items old

-- The number of conflicts that the marks leave open is told.
pub record TellsOpen (base ours theirs marks : List ℕ) (told : ℕ) : Type 0 where
  pub merged : Merged
  pub is_merged : IsMergedByMarks base ours theirs marks (Some merged)
  pub told_is : told ≡ merged.open

-- The code says whether the marks are as many as the items of the merge, of which the bytes with markers are asked.
pub record IsCodeOfMarkers (least : ℕ) (labels : LabelBytes) (base ours theirs marks : List ℕ) (code : ℕ) : Type 0 where
  pub bytes : Option (Vec ℕ)
  pub is_merged : IsMergedWithMarkers least labels base ours theirs marks bytes
  pub code_is : code ≡ code_of_found bytes

-- The call for these bytes returns that code, or 8: an allocation failed.
pub data IsMarkersCode (least : ℕ) (labels : LabelBytes) (base ours theirs marks : List ℕ) (code : ℕ) : Type 0 where
  known : IsCodeOfMarkers least labels base ours theirs marks code → IsMarkersCode least labels base ours theirs marks code
  no_memory : code ≡ 8 → IsMarkersCode least labels base ours theirs marks code

-- The bytes of the merge by the marks, with markers of at least `least` signs around each open conflict, are written over the buffer, clipped to the buffer's
-- length, and their number is told.
pub record TellsMarkers (least : ℕ) (labels : LabelBytes) (base ours theirs marks old new : List ℕ) (told : ℕ) : Type 0 where
  pub bytes : Vec ℕ
  pub is_merged : IsMergedWithMarkers least labels base ours theirs marks (Some bytes)
  pub long : told ≡ length bytes.items
  pub written : new ≡ over bytes.items old
