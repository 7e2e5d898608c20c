-- From file to file: the bytes of two versions, and the sides of the file that shows the change.
use Rattle.std.specs.Prelude.{◌≡◌, ℕ, List, true, false}
use Rattle.scm_types.specs.declared.file.File.{File}
use Rattle.scm_diff.specs.Bytes.{side_bytes}
use Rattle.scm_diff.specs.Change.{checked}

-- The sides of the file are the old and the new bytes, byte for byte.
pub record GivesBytesBack (old new : List ℕ) (file : File) : Type 0 where
  -- nothing checked, as the file is
  pub selected : side_bytes true file ≡ old
  pub unselected : side_bytes false file ≡ new
  -- everything checked
  pub checked_selected : side_bytes true (checked file) ≡ new
  pub checked_unselected : side_bytes false (checked file) ≡ old
