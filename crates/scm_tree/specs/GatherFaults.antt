-- Why two trees and marks have no rows.
use Rattle.std.specs.Prelude.{◌≡◌, ℕ, ◌<◌, List, Bool, true, ◌&&◌, None, is_none, length, slice_index_or, ⊤, ◌⊎◌}
use Rattle.scm_tree.specs.declared.row.Version.{Version}
use Rattle.scm_tree.specs.declared.place.Entry.{Entry}
use Rattle.scm_tree.specs.declared.place.Mark.{Mark}
use Rattle.scm_tree.specs.declared.place.Wish.{Wish}
use Rattle.scm_tree.specs.declared.place.Place.{Place}
use Rattle.scm_tree.specs.declared.rows.GatherError.{GatherError}
use Rattle.scm_tree.specs.declared.rows.GatherError.TheVariants.{Twice, Unknown, OutOfMemory}
use Rattle.scm_tree.specs.Holds.{Holds, times}
use Rattle.scm_tree.specs.Places.{entry_path, entry_version, is_twice, mark_path, mark_wish, place_current, place_goal, place_path, place_wish}

-- a list of files, or the list of marks, has the path more than once
abbrev pub IsTwice : List Entry → List Entry → List Mark → List ℕ → Type 0
IsTwice old new marks p = ((1 < times entry_path entry_version old p) ⊎ (1 < times entry_path entry_version new p)) ⊎ (1 < times mark_path mark_wish marks p)

-- A mark has the path, and neither tree has it.
pub record IsUnknown (old new : List Entry) (marks : List Mark) (p : List ℕ) : Type 0 where
  pub wish : Wish
  pub is_marked : Holds mark_path mark_wish marks p wish
  pub not_old : (v : Version) → Holds entry_path entry_version old p v → ⊥
  pub not_new : (v : Version) → Holds entry_path entry_version new p v → ⊥

-- The error is the reason for which the trees and the marks have no rows, or an allocation failed.
abbrev pub IsGatherFault : List Entry → List Entry → List Mark → GatherError → Type 0
IsGatherFault old new marks (Twice p) = IsTwice old new marks p.now
IsGatherFault old new marks (Unknown p) = IsUnknown old new marks p.now
IsGatherFault old new marks OutOfMemory = ⊤

-- the same of each step: a place that cannot be added to the last one, places of which two have one path, and a place that is in
-- neither tree
abbrev pub IsAddFault : Place → Place → GatherError → Type 0
IsAddFault last y (Twice p) = (p.now ≡ last.path.now) × ((last.path.now ≡ y.path.now) × (is_twice last y ≡ true))
IsAddFault last y (Unknown p) = ⊥
IsAddFault last y OutOfMemory = ⊤

abbrev pub IsPlaceFault : List Place → GatherError → Type 0
IsPlaceFault xs (Twice p) = ((1 < times place_path place_current xs p.now) ⊎ (1 < times place_path place_goal xs p.now)) ⊎ (1 < times place_path place_wish xs p.now)
IsPlaceFault xs (Unknown p) = ⊥
IsPlaceFault xs OutOfMemory = ⊤

pub record IsInNoTree (places : List Place) (i : ℕ) (p : List ℕ) : Type 0 where
  pub path : (d : Place) → (slice_index_or places i d).path.now ≡ p
  pub current : (d : Place) → (slice_index_or places i d).current ≡ None
  pub goal : (d : Place) → (slice_index_or places i d).goal ≡ None

-- whether neither tree has the place's path
abbrev pub is_unknown : Place → Bool
is_unknown x = is_none x.current && is_none x.goal

abbrev pub IsRowsFault : List Place → GatherError → Type 0
IsRowsFault places (Twice p) = ⊥
IsRowsFault places (Unknown p) = (i : ℕ) × ((i < length places) × IsInNoTree places i p.now)
IsRowsFault places OutOfMemory = ⊤
