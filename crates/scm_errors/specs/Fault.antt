-- The errors with which a selection ends, by their kinds and texts.
use Rattle.std.specs.Prelude.{ℕ, List, Bool, false, Option, Some, None, string_bytes, bytes_eq, codes}
use Rattle.scm_errors.specs.declared.error.RecordError.{RecordError}
use Rattle.scm_errors.specs.declared.error.RecordError.TheVariants as errors

-- an error other than an allocation failure, with its text
pub data Fault : Type 0 where
  Cancelled : Fault
  SetUpTerminal : List ℕ → Fault
  CleanUpTerminal : List ℕ → Fault
  RenderFrame : List ℕ → Fault
  ReadInput : List ℕ → Fault
  SerializeJson : List ℕ → Fault
  WriteFile : List ℕ → Fault
  Other : List ℕ → Fault
  Bug : List ℕ → Fault

-- the fault of an error, or `None` for an allocation failure
abbrev pub fault_of : RecordError → Option Fault
fault_of errors.Cancelled = Some Cancelled
fault_of (errors.SetUpTerminal text) = Some (SetUpTerminal (string_bytes text))
fault_of (errors.CleanUpTerminal text) = Some (CleanUpTerminal (string_bytes text))
fault_of (errors.RenderFrame text) = Some (RenderFrame (string_bytes text))
fault_of (errors.ReadInput text) = Some (ReadInput (string_bytes text))
fault_of (errors.SerializeJson text) = Some (SerializeJson (string_bytes text))
fault_of (errors.WriteFile text) = Some (WriteFile (string_bytes text))
fault_of (errors.Other text) = Some (Other (string_bytes text))
fault_of (errors.Bug text) = Some (Bug (string_bytes text))
fault_of errors.OutOfMemory = None

-- whether a read failed because no events were left
abbrev pub is_no_events_left : RecordError → Bool
is_no_events_left (errors.ReadInput text) = bytes_eq (string_bytes text) (codes "no events left")
is_no_events_left errors.Cancelled = false
is_no_events_left (errors.SetUpTerminal text) = false
is_no_events_left (errors.CleanUpTerminal text) = false
is_no_events_left (errors.RenderFrame text) = false
is_no_events_left (errors.SerializeJson text) = false
is_no_events_left (errors.WriteFile text) = false
is_no_events_left (errors.Other text) = false
is_no_events_left (errors.Bug text) = false
is_no_events_left errors.OutOfMemory = false
