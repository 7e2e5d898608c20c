-- The way back of the screen: after deeds it begins at the row at which it began before them.
use Rattle.std.specs.Prelude.{◌≡◌, ℕ, ◌+◌, nat_lt, nat_le, Bool, false, List, [], ◌∷◌, ◌++◌, if◌then◌else◌}
use Rattle.scm_types.specs.declared.keys.SelectionKey.{SelectionKey}
use Rattle.scm_input.specs.declared.events.Event.{Event}
use Rattle.scm_input.specs.declared.events.Event.TheVariants.{PageDown, PageUp, ScrollDown, ScrollUp}
use Rattle.scm_record.specs.Frames.{rows_of}
use Rattle.scm_record.specs.Live.{Live}
use Rattle.scm_record.specs.LiveCalls.{Call, Press, EventLeads}
use Rattle.scm_record.specs.Typed.{is_waiting}
use Rattle.scm_record.specs.declared.live.Turn.{Turn}
use Rattle.scm_record.specs.declared.live.Turn.TheVariants.{Waiting}
use Rattle.scm_front_items.specs.declared.targets.Deed.{Deed}
use Rattle.scm_front.specs.Deeds.{RoundLeads}

-- the event that scrolls a screen of `rows` rows from row `from` of the document towards row `to`: by a screen if it is that far, and
-- otherwise by a row
abbrev pub scroll_event : ℕ → ℕ → ℕ → Event
scroll_event rows from to =
    if nat_lt from to then (if nat_le (from + rows) to then PageDown else ScrollDown)
    else (if nat_le (to + rows) from then PageUp else ScrollUp)

-- the event that scrolls a session towards row `to`
abbrev pub event_towards : Live → ℕ → Event
event_towards l to = scroll_event (rows_of l.kind) l.session.scroll to

-- how many events scroll back at most: more rows than a screen has, and some hundred screens
abbrev pub most_scrolls : ℕ
most_scrolls = 1000

-- A turn is scrolled towards row `to` of the document, by at most `left` events: these calls lead to the last turn. It ends at that row,
-- with the last of the events, or with a turn that does not wait.
pub data ScrollsTo : ℕ → ℕ → Turn → List Call → Turn → Type 0 where
  there : {to left : ℕ} {l : Live} → l.session.scroll ≡ to → ScrollsTo to left (Waiting l) [] (Waiting l)
  tired : {to : ℕ} {l : Live} → ScrollsTo to 0 (Waiting l) [] (Waiting l)
  over : {to left : ℕ} {turn : Turn} → is_waiting turn ≡ false → ScrollsTo to left turn [] turn
  scrolls : {to left fewer : ℕ} {l : Live} {turn last : Turn} {calls : List Call} → (l.session.scroll ≡ to → ⊥) → left ≡ fewer + 1
      → EventLeads l (event_towards l to) turn → ScrollsTo to fewer turn calls last
      → ScrollsTo to left (Waiting l) (Press (event_towards l to) ∷ calls) last

-- Deeds, a jump back to `back`, and scrolls back to where the screen began lead from a session to a turn by these calls.
pub data QuietRound (l : Live) (deeds : List Deed) (back : SelectionKey) (all : List Call) (last : Turn) : Type 0 where
  quiet : {calls more : List Call} {turn : Turn} → RoundLeads l deeds back calls turn → ScrollsTo l.session.scroll most_scrolls turn more last
      → all ≡ calls ++ more → QuietRound l deeds back all last

-- some deeds, and the way back, lead from a session to a turn
abbrev pub SomeQuietRound : Live → SelectionKey → Turn → Type 0
SomeQuietRound l back turn = (deeds : List Deed) × ((calls : List Call) × QuietRound l deeds back calls turn)
