-- Renamed files.
use Rattle.std.specs.Prelude.{◌≡◌, ◌<◌, ◌==◌, ◌&&◌, List, Bool, true, false, not, is_some, length, slice_index_or, if◌then◌else◌}
use Rattle.scm_tree.specs.declared.row.Row.{Row}
use Rattle.scm_tree.specs.declared.rename.Rename.{Rename}

-- whether exactly one of the two holds
abbrev pub is_one : Bool → Bool → Bool
is_one a b = if a then not b else b

-- whether two paths have one file, which is there at one of them, and asked for at one of them
abbrev pub is_one_of : Row → Row → Bool
is_one_of old new = (old.file == new.file) && is_one (is_some old.current) (is_some new.current) && is_one (is_some old.wanted) (is_some new.wanted)

-- The rows of the rename are those of a renamed file.
pub record IsRename (rows : List Row) (rename : Rename) : Type 0 where
  pub old_within : rename.old < length rows
  pub new_within : rename.new < length rows
  pub is_one : (d : Row) → is_one_of (slice_index_or rows rename.old d) (slice_index_or rows rename.new d) ≡ true

-- The rows of the rename are not both there, or not those of a renamed file.
pub record IsBadRename (rows : List Row) (rename : Rename) : Type 0 where
  pub is_none : rename.old < length rows → rename.new < length rows → (d : Row) → is_one_of (slice_index_or rows rename.old d) (slice_index_or rows rename.new d) ≡ false
