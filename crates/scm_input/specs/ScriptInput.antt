-- The script of a `ScriptInput`, from its fields.
use Rattle.std.specs.Prelude.{List, map, string_bytes}
use Rattle.scm_errors.specs.Fault.{Other, ReadInput}
use Rattle.scm_input.specs.Script.{Read, Batch, BrokenRead, Edit, Answer, BrokenEdit, Reply, always}
use Rattle.scm_input.specs.declared.script_input.ScriptRead.{ScriptRead}
use Rattle.scm_input.specs.declared.script_input.ScriptRead.TheVariants as script_reads
use Rattle.scm_input.specs.declared.script_input.ScriptEdit.{ScriptEdit}
use Rattle.scm_input.specs.declared.script_input.ScriptEdit.TheVariants as script_edits

-- the read of a script: a batch, or a `ReadInput` fault
abbrev pub read_in : ScriptRead → Read
read_in (script_reads.Batch events) = Batch events.items
read_in (script_reads.Fault text) = BrokenRead (ReadInput (string_bytes text))

-- the reads of a script
abbrev pub reads_in : List ScriptRead → List Read
reads_in = map read_in

-- the edit of a script: an answer, or an `Other` fault
abbrev pub edit_in : ScriptEdit → Edit
edit_in (script_edits.Answer text) = Answer (string_bytes text)
edit_in (script_edits.Fault text) = BrokenEdit (Other (string_bytes text))

-- the edits of a script, the same for every message
abbrev pub edits_in : List ScriptEdit → List Reply
edits_in = map (λ edit. always (edit_in edit))
