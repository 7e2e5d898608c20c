-- Events that are handed in one after another.
use Rattle.std.proofs.Common.{◌≡◌, ℕ, ◌+◌, ◌<◌, ◌≤◌, false, List, [], ◌∷◌, length, drop, get_or, sym, ap, refl, subst}
use Rattle.std.proofs.lemmas.List.{drop_all, drop_more}
use Rattle.scm_errors.specs.declared.error.RecordError.{RecordError}
use Rattle.scm_input.specs.declared.events.Event.{Event}
use Rattle.scm_record.specs.Live.{Live}
use Rattle.scm_record.specs.LiveCalls.{still, press, EventLeads, EventFails}
use Rattle.scm_record.specs.declared.live.Turn.{Turn}
use Rattle.scm_record.specs.declared.live.Turn.TheVariants.{Waiting}
use Rattle.scm_record.specs.Typed.{is_waiting}
use Rattle.scm_front.specs.Presses.{calls_of, PressesLead, PressesFail}

leads-none : (l : Live) (events : List Event) → events ≡ [] → PressesLead l events (Waiting l)
leads-none l events e = record { handled = []; dropped = []; are = e; path = still; all = λ w. refl }

leads-next : (l next : Live) (event : Event) (rest : List Event) (turn : Turn)
    → EventLeads l event (Waiting next) → PressesLead next rest turn → PressesLead l (event ∷ rest) turn
leads-next l next event rest turn g h = record {
  handled = event ∷ h.handled;
  dropped = h.dropped;
  are = ap (λ (list : List Event). event ∷ list) h.are;
  path = press g h.path;
  all = h.all;
}

leads-last : (l : Live) (event : Event) (rest : List Event) (turn : Turn)
    → EventLeads l event turn → is_waiting turn ≡ false → PressesLead l (event ∷ rest) turn
leads-last l event rest turn g e = record {
  handled = event ∷ [];
  dropped = rest;
  are = refl;
  path = press g still;
  all = λ w. cc;
}

fails-here : (l : Live) (event : Event) (rest : List Event) (error : RecordError)
    → EventFails l event error → PressesFail l (event ∷ rest) error
fails-here l event rest error g = record {
  handled = [];
  event = event;
  dropped = rest;
  are = refl;
  last = l;
  path = still;
  fails = g;
}

fails-next : (l next : Live) (event : Event) (rest : List Event) (error : RecordError)
    → EventLeads l event (Waiting next) → PressesFail next rest error → PressesFail l (event ∷ rest) error
fails-next l next event rest error g h = record {
  handled = event ∷ h.handled;
  event = h.event;
  dropped = h.dropped;
  are = ap (λ (list : List Event). event ∷ list) h.are;
  last = h.last;
  path = press g h.path;
  fails = h.fails;
}

-- what comes of the events that are left comes of all
pub record Goes (first : Live) (events : List Event) (now : Live) (left : List Event) : Type 0 where
  pub leads : (turn : Turn) → PressesLead now left turn → PressesLead first events turn
  pub fails : (error : RecordError) → PressesFail now left error → PressesFail first events error

pub goes-first : (l : Live) (events : List Event) → Goes l events l events
goes-first l events = record { leads = λ turn h. h; fails = λ error h. h }

-- the event at a place
module _ (first now : Live) (events : List Event) (i : ℕ) (d : Event) (is : i < length events) (g : Goes first events now (drop i events)) where
  left : drop i events ≡ get_or events i d ∷ drop (i + 1) events
  left = drop_more events i d is

  pub goes-next : (next : Live) → EventLeads now (get_or events i d) (Waiting next) → Goes first events next (drop (i + 1) events)
  goes-next next leads = record {
    leads = λ turn h. g.leads turn (subst (λ (list : List Event). PressesLead now list turn) (sym left) (leads-next now next _ _ turn leads h));
    fails = λ error h. g.fails error (subst (λ (list : List Event). PressesFail now list error) (sym left) (fails-next now next _ _ error leads h));
  }

  pub goes-last : (turn : Turn) → EventLeads now (get_or events i d) turn → is_waiting turn ≡ false → PressesLead first events turn
  goes-last turn leads e = g.leads turn (subst (λ (list : List Event). PressesLead now list turn) (sym left) (leads-last now _ _ turn leads e))

  -- where the turn is told by an equation
  pub goes-on-by : (turn : Turn) (next : Live) → turn ≡ Waiting next → EventLeads now (get_or events i d) turn → Goes first events next (drop (i + 1) events)
  goes-on-by turn next e leads = goes-next next (subst (λ (t : Turn). EventLeads now (get_or events i d) t) e leads)

  pub goes-last-by : (turn last : Turn) → turn ≡ last → EventLeads now (get_or events i d) turn → is_waiting last ≡ false → PressesLead first events last
  goes-last-by turn last e leads f = goes-last last (subst (λ (t : Turn). EventLeads now (get_or events i d) t) e leads) f

  pub goes-wrong : (error : RecordError) → EventFails now (get_or events i d) error → PressesFail first events error
  goes-wrong error fails = g.fails error (subst (λ (list : List Event). PressesFail now list error) (sym left) (fails-here now _ _ error fails))

pub goes-end : (first now : Live) (events : List Event) (i : ℕ) → length events ≤ i → Goes first events now (drop i events) → PressesLead first events (Waiting now)
goes-end first now events i is g = g.leads (Waiting now) (leads-none now (drop i events) (drop_all i events is))
