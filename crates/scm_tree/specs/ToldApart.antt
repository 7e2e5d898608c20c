-- Answers that are told apart.
use Rattle.std.specs.Prelude.{◌≡◌, ℕ, ◌==◌, List, [], ◌∷◌, Bool, true, false, Err}
use Rattle.scm_tree.specs.Records.{rows_in}
use Rattle.scm_tree.specs.Answers.{record_bytes}

abbrev pub begins_with : ℕ → List ℕ → Bool
begins_with letter [] = false
begins_with letter (b ∷ bytes) = b == letter

-- Bytes that are no rows have one answer, `#` with the first part that is no record, and no other bytes have an answer that begins so.
pub record IsToldApart (bytes answer : List ℕ) : Type 0 where
  pub no_rows : (part : List ℕ) → rows_in bytes ≡ Err part → answer ≡ record_bytes 35 part
  pub only : begins_with 35 answer ≡ true → (part : List ℕ) × (rows_in bytes ≡ Err part)
