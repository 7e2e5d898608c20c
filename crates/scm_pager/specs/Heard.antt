-- A pager that hears bytes of a terminal.
use Rattle.std.specs.Prelude.{◌≡◌, ℕ, Bool, true, false, List, [], ◌∷◌, ◌++◌, Option, option_to_list, if◌then◌else◌}
use Rattle.scm_types.specs.declared.file.File.{File}
use Rattle.scm_input.specs.declared.terminal.TerminalEvent.{TerminalEvent}
use Rattle.scm_terminal.specs.declared.decoder.Decoder.{Decoder}
use Rattle.scm_terminal.specs.Decoders.{Adds, HasHeard, HasRead, Rests}
use Rattle.scm_terminal.specs.Silences.{Start}
use Rattle.scm_pager.specs.declared.pager.Pager.{Pager}
use Rattle.scm_pager.specs.declared.typed.SideCounts.{SideCounts}
use Rattle.scm_pager.specs.Keys.{deed_of}
use Rattle.scm_pager.specs.Moves.{moved}
use Rattle.scm_pager.specs.Sides.{shown_lines}
use Rattle.scm_pager.specs.Windows.{capped_length}

-- how many lines each side of a file has
abbrev pub counts_of : File → SideCounts
counts_of file = record { selected = capped_length (shown_lines true file); other = capped_length (shown_lines false file) }

-- the number of a side
abbrev pub count_on : SideCounts → Bool → ℕ
count_on counts selected = if selected then counts.selected else counts.other

-- a pager after an event: nothing is heard once it is closed
abbrev pub heard : SideCounts → ℕ → ℕ → Pager → TerminalEvent → Pager
heard counts width height p event = if p.is_open then moved p (deed_of event) (count_on counts p.selected) width height else p

-- a pager after events
abbrev pub heard_all : SideCounts → ℕ → ℕ → Pager → List TerminalEvent → Pager
heard_all counts width height p [] = p
heard_all counts width height p (event ∷ events) = heard_all counts width height (heard counts width height p event) events

-- A pager over a file after bytes, which a silence follows: a new decoder finds the events in them, and the one that the silence means,
-- if any.
pub record IsTyped (p : Pager) (file : File) (bytes : List ℕ) (width height : ℕ) (next : Pager) : Type 0 where
  pub begun : Decoder
  pub read : Decoder
  pub rested : Decoder
  pub begins : HasHeard begun false []
  pub found : List TerminalEvent
  pub adds : Adds begun read bytes [] found
  pub last : Option TerminalEvent
  pub rests : (start : Start) (heard : List ℕ) → HasRead read start heard → Rests rested last start heard
  pub is_next : next ≡ heard_all (counts_of file) width height p (found ++ option_to_list last)
