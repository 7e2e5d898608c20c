-- Deeds, done one after another: each is a jump to its item, and an event there.
use Rattle.std.specs.Prelude.{◌≡◌, Bool, true, false, ◌&&◌, List, [], ◌∷◌, ◌++◌}
use Rattle.scm_types.specs.declared.keys.SelectionKey.{SelectionKey}
use Rattle.scm_input.specs.declared.events.Event.{Event}
use Rattle.scm_input.specs.declared.events.Event.TheVariants.{ToggleItem, ExpandItem}
use Rattle.scm_record.specs.Live.{Live}
use Rattle.scm_record.specs.Jumps.{can_select, after_selecting}
use Rattle.scm_record.specs.LiveCalls.{Call, Press, EventLeads}
use Rattle.scm_record.specs.Typed.{is_waiting}
use Rattle.scm_record.specs.declared.live.Turn.{Turn}
use Rattle.scm_record.specs.declared.live.Turn.TheVariants.{Waiting}
use Rattle.scm_front_items.specs.declared.targets.Deed.{Deed}
use Rattle.scm_front_items.specs.declared.targets.Deed.TheVariants.{Mark, Fold}
use Rattle.scm_front_items.specs.Targets.{key_of, is_open_deed}
use Rattle.scm_front.specs.Begun.{JumpLeads}

-- the event of a deed
abbrev pub event_of : Deed → Event
event_of (Mark t) = ToggleItem
event_of (Fold key) = ExpandItem

-- whether a deed is to be done: its item can be selected, and it has something to do
abbrev pub is_due : Live → Deed → Bool
is_due l deed = can_select l (key_of deed) && is_open_deed l.session.shown.state.files l.session.shown.expanded deed

-- a deed leads from a session to a turn by these calls and its event: first its item is selected
pub record DeedDone (l : Live) (deed : Deed) (turn : Turn) : Type 0 where
  pub calls : List Call
  pub jump : JumpLeads l (key_of deed) calls (after_selecting l (key_of deed))
  pub event : EventLeads (after_selecting l (key_of deed)) (event_of deed) turn

-- a deed is done if it is due, and otherwise the session is as it was
pub data DeedTried (l : Live) (deed : Deed) (turn : Turn) : Type 0 where
  idles : is_due l deed ≡ false → turn ≡ Waiting l → DeedTried l deed turn
  acts : is_due l deed ≡ true → DeedDone l deed turn → DeedTried l deed turn

-- The deeds lead from a session to a turn by these calls. One that is not due is left out. After the first that ends the session, or asks
-- for a message, the rest is left out.
pub data DeedsLead : Live → List Deed → List Call → Turn → Type 0 where
  done : {l : Live} → DeedsLead l [] [] (Waiting l)
  skips : {l : Live} {deed : Deed} {deeds : List Deed} {calls : List Call} {turn : Turn}
      → is_due l deed ≡ false → DeedsLead l deeds calls turn → DeedsLead l (deed ∷ deeds) calls turn
  does : {l next : Live} {deed : Deed} {deeds : List Deed} {calls : List Call} {turn : Turn}
      → is_due l deed ≡ true → (d : DeedDone l deed (Waiting next)) → DeedsLead next deeds calls turn
      → DeedsLead l (deed ∷ deeds) (d.calls ++ (Press (event_of deed) ∷ calls)) turn
  ends : {l : Live} {deed : Deed} {deeds : List Deed} {turn : Turn}
      → is_due l deed ≡ true → (d : DeedDone l deed turn) → is_waiting turn ≡ false
      → DeedsLead l (deed ∷ deeds) (d.calls ++ (Press (event_of deed) ∷ [])) turn

-- Deeds, and then a jump back to `back`, lead from a session to a turn by these calls.
pub data RoundLeads : Live → List Deed → SelectionKey → List Call → Turn → Type 0 where
  returns : {l mid : Live} {deeds : List Deed} {back : SelectionKey} {calls more : List Call}
      → DeedsLead l deeds calls (Waiting mid) → JumpLeads mid back more (after_selecting mid back)
      → RoundLeads l deeds back (calls ++ more) (Waiting (after_selecting mid back))
  leaves : {l : Live} {deeds : List Deed} {back : SelectionKey} {calls : List Call} {turn : Turn}
      → DeedsLead l deeds calls turn → is_waiting turn ≡ false → RoundLeads l deeds back calls turn

-- some deeds lead from a session to a turn
abbrev pub SomeDeedsLead : Live → Turn → Type 0
SomeDeedsLead l turn = (deeds : List Deed) × ((calls : List Call) × DeedsLead l deeds calls turn)

-- some deeds, and then a jump back to `back`, lead from a session to a turn
abbrev pub SomeRoundLeads : Live → SelectionKey → Turn → Type 0
SomeRoundLeads l back turn = (deeds : List Deed) × ((calls : List Call) × RoundLeads l deeds back calls turn)

-- a jump to `back` leads from a session to the turn
pub record ReturnsTo (l : Live) (back : SelectionKey) (turn : Turn) : Type 0 where
  pub calls : List Call
  pub jump : JumpLeads l back calls (after_selecting l back)
  pub is : turn ≡ Waiting (after_selecting l back)
