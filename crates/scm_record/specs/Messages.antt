-- The request to edit the message of a commit, by the key or by a click.
use Rattle.std.specs.Prelude.{ℕ, List, Option, Some, None}
use Rattle.scm_input.specs.declared.events.Event.TheVariants as events
use Rattle.scm_record.specs.Session.{Session, with_pushed, message_of}
use Rattle.scm_record.specs.Change.{Change, stays, edits}

-- the change that edits the message of the commit at index `commit`, if it has one
abbrev pub edit_if : ℕ → Session → Option (List ℕ) → Change
edit_if commit s None = stays s
edit_if commit s (Some text) = edits commit s

-- the change by a request to edit a message: `Redraw` becomes pending, and the message is edited
abbrev pub after_edit_request : Session → ℕ → Change
after_edit_request s commit = edit_if commit (with_pushed s events.Redraw) (message_of s commit)
