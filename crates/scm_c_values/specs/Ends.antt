-- How a session ended: its code and its sentence.
use Rattle.std.specs.Prelude.{ℕ, ◌++◌, List, codes, string_bytes}
use Rattle.scm_errors.specs.declared.error.RecordError.{RecordError}
use Rattle.scm_errors.specs.declared.error.RecordError.TheVariants as errors

-- The sentence of an error that ended a session: what happened, and the cause where there is one.
abbrev pub sentence_of : RecordError → List ℕ
sentence_of errors.Cancelled = codes "cancelled by user"
sentence_of errors.OutOfMemory = codes "out of memory"
sentence_of (errors.SetUpTerminal text) = codes "failed to set up terminal: " ++ string_bytes text
sentence_of (errors.CleanUpTerminal text) = codes "failed to clean up terminal: " ++ string_bytes text
sentence_of (errors.RenderFrame text) = codes "failed to render new frame: " ++ string_bytes text
sentence_of (errors.ReadInput text) = codes "failed to read user input: " ++ string_bytes text
sentence_of (errors.SerializeJson text) = codes "failed to serialize JSON: " ++ string_bytes text
sentence_of (errors.WriteFile text) = codes "failed to wrote file: " ++ string_bytes text
sentence_of (errors.Other text) = string_bytes text
sentence_of (errors.Bug text) = codes "bug: " ++ string_bytes text

-- The code of an error that ends a session.
abbrev pub code_of_failure : RecordError → ℕ
code_of_failure errors.Cancelled = 2
code_of_failure errors.OutOfMemory = 3
code_of_failure (errors.SetUpTerminal text) = 4
code_of_failure (errors.CleanUpTerminal text) = 5
code_of_failure (errors.RenderFrame text) = 6
code_of_failure (errors.ReadInput text) = 7
code_of_failure (errors.SerializeJson text) = 8
code_of_failure (errors.WriteFile text) = 9
code_of_failure (errors.Other text) = 10
code_of_failure (errors.Bug text) = 11
