-- What the quit dialog counts as lost: messages that are not empty, and files that are not wholly unchecked.
use Rattle.std.specs.Prelude.{ℕ, Bool, true, false, List, [], ◌∷◌, count_by, Option, Some, None}
use Rattle.scm_types.specs.declared.state.Commit.{Commit}
use Rattle.scm_types.specs.declared.file.File.{File}
use Rattle.scm_types.specs.declared.state.RecordState.{RecordState}
use Rattle.scm_types.specs.declared.tristate.Tristate.{Tristate}
use Rattle.scm_types.specs.declared.tristate.Tristate.TheVariants as tristates
use Rattle.scm_types.specs.Marks.{file_marks, tristate_of}

-- whether there is a message and it is not empty
abbrev pub is_nonempty_message : Option (List ℕ) → Bool
is_nonempty_message None = false
is_nonempty_message (Some []) = false
is_nonempty_message (Some (byte ∷ bytes)) = true

-- the number of commits whose message is not empty
abbrev pub message_count : RecordState → ℕ
message_count state = count_by (λ (c : Commit). is_nonempty_message c.message) state.commits

-- whether the mark of a file is not wholly unchecked
abbrev pub is_changed_by : Tristate → Bool
is_changed_by tristates.False = false
is_changed_by tristates.Partial = true
is_changed_by tristates.True = true

-- whether a file is not wholly unchecked
abbrev pub is_changed : File → Bool
is_changed file = is_changed_by (tristate_of (file_marks file))

-- the number of files that are not wholly unchecked
abbrev pub changed_count : RecordState → ℕ
changed_count state = count_by is_changed state.files
