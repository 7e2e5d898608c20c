-- The rows of two trees and marks.
use Rattle.std.specs.Prelude.{◌≡◌, ℕ, ◌<◌, List, true, ◌||◌, Option, Some, None, is_some, length, slice_index_or, ◌⊎◌}
use Rattle.std.specs.List.{All}
use Rattle.scm_tree.specs.declared.row.Version.{Version}
use Rattle.scm_tree.specs.declared.row.Row.{Row}
use Rattle.scm_tree.specs.Rows.{AreInOrder}
use Rattle.scm_tree.specs.declared.place.Entry.{Entry}
use Rattle.scm_tree.specs.declared.place.Mark.{Mark}
use Rattle.scm_tree.specs.declared.place.Wish.{Wish}
use Rattle.scm_tree.specs.declared.place.Place.{Place}
use Rattle.scm_tree.specs.Holds.{HaveSame, Holds}
use Rattle.scm_tree.specs.Places.{entry_path, entry_version, mark_path, mark_wish}
use Rattle.scm_tree.specs.GatherFaults.{IsTwice}

abbrev pub row_path : Row → List ℕ
row_path r = r.path.now

abbrev pub row_current : Row → Option Version
row_current r = r.current

abbrev pub row_goal : Row → Option Version
row_goal r = r.goal

-- what the marks ask for at a path: what is there now, if no mark has the path
abbrev pub wanted_by : Option Wish → Option Version → Option Version
wanted_by None current = current
wanted_by (Some w) current = w.wanted

-- the file of a path: `count`, if no mark has it
abbrev pub file_by : Option Wish → ℕ → ℕ
file_by None count = count
file_by (Some w) count = w.file

-- The row has what place `i` has.
pub record IsRowOf (count : ℕ) (places : List Place) (i : ℕ) (r : Row) : Type 0 where
  pub path : (d : Place) → r.path.now ≡ (slice_index_or places i d).path.now
  pub current : (d : Place) → r.current ≡ (slice_index_or places i d).current
  pub goal : (d : Place) → r.goal ≡ (slice_index_or places i d).goal
  pub wanted : (d : Place) → r.wanted ≡ wanted_by (slice_index_or places i d).wish (slice_index_or places i d).current
  pub file : (d : Place) → r.file ≡ file_by (slice_index_or places i d).wish count
  pub there : (is_some r.current || is_some r.goal) ≡ true

-- The rows are those of the first `i` places.
pub record AreRowsBelow (count : ℕ) (places : List Place) (i : ℕ) (rows : List Row) : Type 0 where
  pub long : length rows ≡ i
  pub each : (k : ℕ) (d : Row) → k < i → IsRowOf count places k (slice_index_or rows k d)

-- The row has what a mark of its path asks for.
pub record IsMarked (marks : List Mark) (r : Row) : Type 0 where
  pub wish : Wish
  pub is_there : Holds mark_path mark_wish marks r.path.now wish
  pub wanted : r.wanted ≡ wish.wanted
  pub file : r.file ≡ wish.file

-- No mark has the row's path: it keeps what is there.
pub record IsUnmarked (count : ℕ) (marks : List Mark) (r : Row) : Type 0 where
  pub is_none : (w : Wish) → Holds mark_path mark_wish marks r.path.now w → ⊥
  pub wanted : r.wanted ≡ r.current
  pub file : r.file ≡ count

-- The rows are those of two trees and of the marks of `count` shown files.
pub record AreMerged (count : ℕ) (old new : List Entry) (marks : List Mark) (rows : List Row) : Type 0 where
  -- each path is there once
  pub in_order : AreInOrder rows
  -- no list has a path twice
  pub once : (p : List ℕ) → IsTwice old new marks p → ⊥
  -- no file of either tree is lost, and none is made up
  pub current : HaveSame entry_path entry_version old row_path row_current rows
  pub goal : HaveSame entry_path entry_version new row_path row_goal rows
  pub there : All (λ (r : Row). (is_some r.current || is_some r.goal) ≡ true) rows
  -- each mark has its row, and each other row keeps what is there
  pub marks_kept : (p : List ℕ) (w : Wish) → Holds mark_path mark_wish marks p w → Holds row_path (λ (r : Row). Some r.wanted) rows p w.wanted
  pub marked : All (λ (r : Row). IsMarked marks r ⊎ IsUnmarked count marks r) rows
