-- What the call tells of a version of a file without the changes that are of blanks alone.
use Rattle.std.specs.Prelude.{◌≡◌, ℕ, List, length}
use Rattle.scm_c_values.specs.Buffers.{over}
use Rattle.scm_diff.specs.declared.blanks.WithoutBlankChanges.{WithoutBlankChanges}
use Rattle.scm_diff.specs.Blanks.{AreWithoutBlankChanges}

-- The bytes of that version are written over the buffer, clipped to the buffer's length, and their number and that of the lines that are left out are
-- told.
pub record TellsWithoutBlankChanges (old new before after : List ℕ) (told left_out : ℕ) : Type 0 where
  pub found : WithoutBlankChanges
  pub are_without : AreWithoutBlankChanges old new found
  pub long : told ≡ length found.bytes.items
  pub written : after ≡ over found.bytes.items before
  pub count : left_out ≡ found.left_out
