-- The pieces of a text between its spaces, and the events that they name.
use Rattle.std.specs.Prelude.{ℕ, List, Option, None, if◌then◌else◌, ◌==◌, [], ◌∷◌, ◌++◌, Bool, true, false, Some, option_map, option_and_then}
use Rattle.std.specs.Str.{is_utf8}
use Rattle.scm_input.specs.declared.events.Event.{Event}
use Rattle.scm_script.specs.Words.{event_of_word}
use Rattle.scm_embed.specs.Lines.{with_first}

-- The event of a script's word. None if the bytes are not UTF-8.
abbrev pub event_of_bytes : List ℕ → Option Event
event_of_bytes bytes = if is_utf8 bytes then event_of_word bytes else None

-- ---- events from bytes

-- The pieces of a text between its spaces (the byte 32). There is at least one, and any of them may be empty.
abbrev pub pieces_of : List ℕ → List (List ℕ)
pieces_of [] = [] ∷ []
pieces_of (b ∷ bs) = if b == 32 then [] ∷ pieces_of bs else with_first b (pieces_of bs)

-- The event of a piece: none if it is empty. None if it is no word of an event.
abbrev pub events_of_piece : List ℕ → Option (List Event)
events_of_piece [] = Some []
events_of_piece (b ∷ bs) = option_map (λ (event : Event). event ∷ []) (event_of_word (b ∷ bs))

-- What pieces stand for, in order, where `of_piece` says that of each. None if one of them stands for nothing.
abbrev pub all_of : {A : Type 0} → (List ℕ → Option (List A)) → List (List ℕ) → Option (List A)
all_of of_piece [] = Some []
all_of {A} of_piece (piece ∷ pieces) = option_and_then (λ (found : List A).
    option_map (λ (more : List A). found ++ more) (all_of of_piece pieces)) (of_piece piece)

-- The events of pieces, in order. None if one of them is no word of an event.
abbrev pub events_of_pieces : List (List ℕ) → Option (List Event)
events_of_pieces pieces = all_of events_of_piece pieces

-- The events of words that are separated by spaces. None if the bytes are not UTF-8, or one of the words has no event.
abbrev pub events_of_bytes : List ℕ → Option (List Event)
events_of_bytes bytes = if is_utf8 bytes then events_of_pieces (pieces_of bytes) else None

-- What is found is added to a list, or there is nothing: then the list does not matter.
pub data Adds {A : Type 0} : Option (List A) → List A → List A → Bool → Type 0 where
  added : {found old : List A} → Adds (Some found) old (old ++ found) true
  no_word : {old new : List A} → Adds None old new false
