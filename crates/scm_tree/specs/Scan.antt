-- How far the walk that looks for a clash has come, and what is wrong with rows.
use Rattle.std.specs.Prelude.{◌≡◌, ℕ, ◌-◌, ◌<◌, List, true, false, Option, Some, None, is_some, length, slice_index_or}
use Rattle.scm_tree.specs.declared.row.Version.{Version}
use Rattle.scm_tree.specs.declared.row.Row.{Row}
use Rattle.scm_tree.specs.declared.check.RowFault.{RowFault}
use Rattle.scm_tree.specs.declared.check.RowFault.TheVariants.{NotInOrder, ClashNow, ClashInGoal, NotOfTheTrees}
use Rattle.scm_tree.specs.Paths.{is_before, is_inside}
use Rattle.scm_tree.specs.Rows.{is_row_of}
use Rattle.scm_tree.specs.Refusals.{IsClash}

-- Row `l` is the last one before row `i` that is there.
pub record IsLastRow (at : Row → Option Version) (rows : List Row) (i l : ℕ) : Type 0 where
  pub within : l < i
  pub there : (d : Row) → is_some (at (slice_index_or rows l d)) ≡ true
  pub after : (a : ℕ) (d : Row) → l < a → a < i → is_some (at (slice_index_or rows a d)) ≡ false

abbrev pub IsLast : (Row → Option Version) → List Row → ℕ → Option ℕ → Type 0
IsLast at rows i None = (a : ℕ) (d : Row) → a < i → is_some (at (slice_index_or rows a d)) ≡ false
IsLast at rows i (Some l) = IsLastRow at rows i l

-- if both rows are there, the second does not lie in the first
abbrev pub Apart : (Row → Option Version) → Row → Row → Type 0
Apart at p q = is_some (at p) ≡ true → is_some (at q) ≡ true → is_inside p.path.now q.path.now ≡ false

-- Before row `i` no row lies in another one, and `last` is the last one that is there.
pub record IsScanned (at : Row → Option Version) (rows : List Row) (i : ℕ) (last : Option ℕ) : Type 0 where
  pub apart : (a b : ℕ) (d : Row) → a < b → b < i → Apart at (slice_index_or rows a d) (slice_index_or rows b d)
  pub last_is : IsLast at rows i last

-- The path of row `i` comes after that of the row before, if there is one.
pub record IsNextInOrder (rows : List Row) (i : ℕ) : Type 0 where
  pub after : 0 < i → (d : Row) → is_before (slice_index_or rows (i - 1) d).path.now (slice_index_or rows i d).path.now ≡ true

-- The path of row `i` does not come after that of the row before.
pub record IsOutOfOrder (rows : List Row) (i : ℕ) : Type 0 where
  pub after : 0 < i
  pub within : i < length rows
  pub falls : (d : Row) → is_before (slice_index_or rows (i - 1) d).path.now (slice_index_or rows i d).path.now ≡ false

-- Row `i` is none of the trees, or of no file of `count`.
pub record IsNoRow (count : ℕ) (rows : List Row) (i : ℕ) : Type 0 where
  pub within : i < length rows
  pub is_none : (d : Row) → is_row_of count (slice_index_or rows i d) ≡ false

-- what is wrong with the rows
abbrev pub IsRowFault : ℕ → List Row → RowFault → Type 0
IsRowFault count rows (NotInOrder i) = IsOutOfOrder rows i
IsRowFault count rows (ClashNow clash) = IsClash (λ (r : Row). r.current) rows clash
IsRowFault count rows (ClashInGoal clash) = IsClash (λ (r : Row). r.goal) rows clash
IsRowFault count rows (NotOfTheTrees i) = IsNoRow count rows i

-- The rows before row `i` are in order.
pub record AreInOrderBelow (rows : List Row) (i : ℕ) : Type 0 where
  pub pairs : (a b : ℕ) (d : Row) → a < b → b < i → is_before (slice_index_or rows a d).path.now (slice_index_or rows b d).path.now ≡ true
