-- What calls tell of what becomes of paths.
use Rattle.std.specs.Prelude.{◌≡◌, ℕ, List, length}
use Rattle.scm_c_values.specs.Buffers.{over}
use Rattle.scm_tree.specs.Answers.{IsAnswer}

-- The answer to the bytes is written over the buffer, clipped to the buffer's length, and its whole length is told.
pub record TellsAnswer (bytes old new : List ℕ) (told : ℕ) : Type 0 where
  pub answer : List ℕ
  pub is : IsAnswer bytes answer
  pub long : told ≡ length answer
  pub written : new ≡ over answer old
