-- The script of a `TestingInput`, from its fields.
use Rattle.std.specs.Prelude.{ℕ, List, [], ◌∷◌, map, String, string_bytes}
use Rattle.std.specs.declared.alloc.Global.{Global}
use Rattle.scm_input.specs.Script.{Read, Batch, Answer, Reply, always}
use Rattle.scm_input.specs.declared.events.Event.{Event}
use Rattle.scm_input.specs.declared.events.Event.TheVariants as events
use Rattle.scm_input.specs.declared.inputs.TerminalKind.{TerminalKind}
use Rattle.scm_input.specs.declared.inputs.TerminalKind.TheVariants.{Testing}

-- the screen in memory with this width and height
abbrev pub kind_of : ℕ → ℕ → TerminalKind
kind_of width height = Testing width height

-- the reads: each event is a batch
abbrev pub single_events : List Event → List Read
single_events = map (λ event. Batch (event ∷ []))

-- the edits: each text is an answer, the same for every message
abbrev pub answers : List (String Global) → List Reply
answers = map (λ text. always (Answer (string_bytes text)))

-- the batch of the first event, or of `None` if there are no events
abbrev pub first_batch : List Event → List Event
first_batch [] = events.None ∷ []
first_batch (event ∷ rest) = event ∷ []
