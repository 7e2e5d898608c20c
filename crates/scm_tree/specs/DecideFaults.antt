-- Why nothing is decided.
use Rattle.std.specs.Prelude.{◌≡◌, ℕ, ◌+◌, ◌<◌, List, true, false, Some, None, length, slice_index_or, ⊤}
use Rattle.std.specs.List.{All}
use Rattle.scm_tree.specs.declared.names.PathFault.{PathFault}
use Rattle.scm_tree.specs.declared.row.Row.{Row}
use Rattle.scm_tree.specs.Rows.{AreRows}
use Rattle.scm_tree.specs.Scan.{IsRowFault}
use Rattle.scm_tree.specs.declared.place.Entry.{Entry}
use Rattle.scm_tree.specs.declared.place.Mark.{Mark}
use Rattle.scm_tree.specs.declared.decision.Moved.{Moved}
use Rattle.scm_tree.specs.declared.decision.DecideError.{DecideError}
use Rattle.scm_tree.specs.declared.decision.DecideError.TheVariants.{Twice, Unknown, Path, Rows, Rename, File, OutOfMemory}
use Rattle.scm_tree.specs.declared.rows.GatherError.{GatherError}
use Rattle.scm_tree.specs.declared.rows.GatherError.TheVariants as gather
use Rattle.scm_tree.specs.GatherFaults.{IsTwice, IsUnknown}
use Rattle.scm_tree.specs.Merge.{AreMerged}
use Rattle.scm_tree.specs.Decisions.{IsMoved, is_shown, row_fault}

-- each path that would come, or is that of one of `count` shown files, names a file below the top folder
abbrev pub PathsFit : ℕ → List Row → Type 0
PathsFit count rows = All (λ (r : Row). row_fault count r ≡ None) rows

-- each mark is one of a shown file
abbrev pub MarksFit : ℕ → List Mark → Type 0
MarksFit count marks = All (λ (m : Mark). is_shown count m ≡ true) marks

-- The file of mark `i` is not one of `count`. It is the first such mark.
pub record IsBadMark (count : ℕ) (marks : List Mark) (i : ℕ) : Type 0 where
  pub within : i < length marks
  pub is_bad : (d : Mark) → is_shown count (slice_index_or marks i d) ≡ false
  pub before : (k : ℕ) (d : Mark) → k < i → is_shown count (slice_index_or marks k d) ≡ true

-- A row has path `p`, which would come or is shown, and has the fault. It is the first such row.
pub record IsFaultyPath (count : ℕ) (rows : List Row) (p : List ℕ) (fault : PathFault) : Type 0 where
  pub row : ℕ
  pub within : row < length rows
  pub path : (d : Row) → (slice_index_or rows row d).path.now ≡ p
  pub is_faulty : (d : Row) → row_fault count (slice_index_or rows row d) ≡ Some fault
  pub before : (k : ℕ) (d : Row) → k < row → row_fault count (slice_index_or rows k d) ≡ None

-- The paths of renamed file `i` are not those of rows that are a rename. It is the first such file.
pub record IsNotMoved (rows : List Row) (moved : List Moved) (i : ℕ) : Type 0 where
  pub within : i < length moved
  pub is_none : (d : Moved) → IsMoved rows (slice_index_or moved i d) → ⊥
  pub before : (k : ℕ) (d : Moved) → k < i → IsMoved rows (slice_index_or moved k d)

-- The error is the reason for which nothing is decided of two trees and of the marks of `count` shown files, or an allocation
-- failed. A mark is one of no shown file; or they have no rows; or their rows give the reason. It is looked for in this order: a path, the trees,
-- a renamed file.
abbrev pub IsDecideFault : ℕ → List Entry → List Entry → List Mark → List Moved → DecideError → Type 0
IsDecideFault count old new marks moved (Twice p) = IsTwice old new marks p.now
IsDecideFault count old new marks moved (Unknown p) = IsUnknown old new marks p.now
IsDecideFault count old new marks moved (Path p fault) = (rows : List Row) × (AreMerged count old new marks rows × IsFaultyPath count rows p.now fault)
IsDecideFault count old new marks moved (Rows fault) = (rows : List Row) × (AreMerged count old new marks rows × (PathsFit count rows × IsRowFault (count + 1) rows fault))
IsDecideFault count old new marks moved (Rename i) = (rows : List Row) × (AreMerged count old new marks rows × (PathsFit count rows × (AreRows (count + 1) rows × IsNotMoved rows moved i)))
IsDecideFault count old new marks moved (File i) = IsBadMark count marks i
IsDecideFault count old new marks moved OutOfMemory = ⊤

-- why two trees and marks have no rows, as a reason for which nothing is decided
abbrev pub decide_error : GatherError → DecideError
decide_error (gather.Twice p) = Twice p
decide_error (gather.Unknown p) = Unknown p
decide_error gather.OutOfMemory = OutOfMemory

-- the same of the check of the marks
abbrev pub IsMarkReason : ℕ → List Mark → DecideError → Type 0
IsMarkReason count marks (Twice p) = ⊥
IsMarkReason count marks (Unknown p) = ⊥
IsMarkReason count marks (Path p fault) = ⊥
IsMarkReason count marks (Rows fault) = ⊥
IsMarkReason count marks (Rename i) = ⊥
IsMarkReason count marks (File i) = IsBadMark count marks i
IsMarkReason count marks OutOfMemory = ⊥

-- the same of each check of the rows
abbrev pub IsPathReason : ℕ → List Row → DecideError → Type 0
IsPathReason count rows (Twice p) = ⊥
IsPathReason count rows (Unknown p) = ⊥
IsPathReason count rows (Path p fault) = IsFaultyPath count rows p.now fault
IsPathReason count rows (Rows fault) = ⊥
IsPathReason count rows (Rename i) = ⊥
IsPathReason count rows (File i) = ⊥
IsPathReason count rows OutOfMemory = ⊥

abbrev pub IsTreesReason : ℕ → List Row → DecideError → Type 0
IsTreesReason count rows (Twice p) = ⊥
IsTreesReason count rows (Unknown p) = ⊥
IsTreesReason count rows (Path p fault) = ⊥
IsTreesReason count rows (Rows fault) = IsRowFault count rows fault
IsTreesReason count rows (Rename i) = ⊥
IsTreesReason count rows (File i) = ⊥
IsTreesReason count rows OutOfMemory = ⊥

abbrev pub IsMovedReason : List Row → List Moved → DecideError → Type 0
IsMovedReason rows moved (Twice p) = ⊥
IsMovedReason rows moved (Unknown p) = ⊥
IsMovedReason rows moved (Path p fault) = ⊥
IsMovedReason rows moved (Rows fault) = ⊥
IsMovedReason rows moved (Rename i) = IsNotMoved rows moved i
IsMovedReason rows moved (File i) = ⊥
IsMovedReason rows moved OutOfMemory = ⊥
