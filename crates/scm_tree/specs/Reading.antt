-- What the reading of bytes gives.
use Rattle.std.specs.Prelude.{◌≡◌, ℕ, List, Bool, true, false, Option, Some, None, Err, ⊤}
use Rattle.scm_tree.specs.declared.asked.Asked.{Asked}
use Rattle.scm_tree.specs.declared.asked.ReadError.{ReadError}
use Rattle.scm_tree.specs.declared.asked.ReadError.TheVariants.{NoRecord, OutOfMemory}
use Rattle.scm_tree.specs.Records.{Held, held_by, rows_in}

-- what is held after a step, if the step goes
abbrev pub held_if : Bool → Asked → Option Held
held_if true asked = Some (held_by asked)
held_if false asked = None

-- The error names the first part of the bytes that is no record, or an allocation failed.
abbrev pub IsReadFault : List ℕ → ReadError → Type 0
IsReadFault bytes (NoRecord part) = rows_in bytes ≡ Err part.now
IsReadFault bytes OutOfMemory = ⊤
