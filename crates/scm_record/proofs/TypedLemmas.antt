-- A session that is driven by bytes goes by calls, and what it presses are the decoded events.
use Rattle.std.proofs.Common.{◌≡◌, ℕ, ◌+◌, ◌<◌, ◌≤◌, Bool, true, false, IsTrue, List, [], ◌∷◌, ◌++◌, map, length, drop, get_or, sym, ap, ◌∙◌, refl, subst, append_assoc}
use Rattle.std.specs.Prelude.{option_to_list}
use Rattle.std.proofs.lemmas.List.{append-nil, drop_all, drop_more}
use Rattle.scm_errors.specs.declared.error.RecordError.{RecordError}
use Rattle.scm_input.specs.KeyTable.{event_of}
use Rattle.scm_input.specs.declared.inputs.TerminalKind.{TerminalKind}
use Rattle.scm_input.specs.declared.terminal.TerminalEvent.{TerminalEvent}
use Rattle.scm_types.specs.declared.state.RecordState.{RecordState}
use Rattle.scm_types.specs.Limits.{is_accepted_state}
use Rattle.scm_terminal.specs.declared.decoder.Decoder.{Decoder}
use Rattle.scm_terminal.specs.Decoders.{HasHeard, HasRead}
use Rattle.scm_terminal.specs.Streams.{stream_events, split_from}
use Rattle.scm_terminal.specs.Silences.{Start, at_first, events_from, after_silence}
use Rattle.scm_record.specs.Session.{start}
use Rattle.scm_record.specs.Live.{Live}
use Rattle.scm_record.specs.LiveCalls.{Call, Press, Path, still, press, say, resize, EventLeads, EventFails, AreRuns}
use Rattle.scm_record.specs.declared.live.Turn.{Turn}
use Rattle.scm_record.specs.declared.live.Turn.TheVariants.{Waiting, Editing, Accepted}
use Rattle.scm_record.specs.Typed.{presses, is_waiting, HandsIn, FailsAmong, BytesLead, Input, Bytes, Silence, Message, Screen, InputPath, at_end, by_bytes, by_silence, by_message, by_screen, InputsMean, no_more, of_bytes, of_silence, of_message, of_screen, all_bytes}
use Rattle.scm_record.proofs.LiveLemmas.{sessions-are-runs}
use Rattle.scm_record.proofs.PathLemmas.{path-after}

-- ---- events, one after the other

pub hands-none : (l : Live) (events : List TerminalEvent) → events ≡ [] → HandsIn l events (Waiting l)
hands-none l events e = record { handled = []; dropped = []; are = e; path = still; all = λ w. refl }

pub hands-next : (l next : Live) (event : TerminalEvent) (rest : List TerminalEvent) (turn : Turn)
    → EventLeads l (event_of event) (Waiting next) → HandsIn next rest turn → HandsIn l (event ∷ rest) turn
hands-next l next event rest turn g h = record {
  handled = event ∷ h.handled;
  dropped = h.dropped;
  are = ap (λ (list : List TerminalEvent). event ∷ list) h.are;
  path = press g h.path;
  all = h.all;
}

pub hands-last : (l : Live) (event : TerminalEvent) (rest : List TerminalEvent) (turn : Turn)
    → EventLeads l (event_of event) turn → is_waiting turn ≡ false → HandsIn l (event ∷ rest) turn
hands-last l event rest turn g e = record {
  handled = event ∷ [];
  dropped = rest;
  are = refl;
  path = press g still;
  all = λ w. cc;
}

pub fails-here : (l : Live) (event : TerminalEvent) (rest : List TerminalEvent) (error : RecordError)
    → EventFails l (event_of event) error → FailsAmong l (event ∷ rest) error
fails-here l event rest error g = record {
  handled = [];
  event = event;
  dropped = rest;
  are = refl;
  last = l;
  path = still;
  fails = g;
}

pub fails-next : (l next : Live) (event : TerminalEvent) (rest : List TerminalEvent) (error : RecordError)
    → EventLeads l (event_of event) (Waiting next) → FailsAmong next rest error → FailsAmong l (event ∷ rest) error
fails-next l next event rest error g h = record {
  handled = event ∷ h.handled;
  event = h.event;
  dropped = h.dropped;
  are = ap (λ (list : List TerminalEvent). event ∷ list) h.are;
  last = h.last;
  path = press g h.path;
  fails = h.fails;
}

-- what is left of the events, where they are handled one by one: whatever comes of the rest comes of all
pub record Goes (first : Live) (events : List TerminalEvent) (now : Live) (left : List TerminalEvent) : Type 0 where
  pub leads : (turn : Turn) → HandsIn now left turn → HandsIn first events turn
  pub fails : (error : RecordError) → FailsAmong now left error → FailsAmong first events error

pub goes-first : (l : Live) (events : List TerminalEvent) → Goes l events l events
goes-first l events = record { leads = λ turn h. h; fails = λ error h. h }

-- the event at a place
module _ (first now : Live) (events : List TerminalEvent) (i : ℕ) (d : TerminalEvent) (is : i < length events) (g : Goes first events now (drop i events)) where
  left : drop i events ≡ get_or events i d ∷ drop (i + 1) events
  left = drop_more events i d is

  pub goes-next : (next : Live) → EventLeads now (event_of (get_or events i d)) (Waiting next) → Goes first events next (drop (i + 1) events)
  goes-next next leads = record {
    leads = λ turn h. g.leads turn (subst (λ (list : List TerminalEvent). HandsIn now list turn) (sym left) (hands-next now next _ _ turn leads h));
    fails = λ error h. g.fails error (subst (λ (list : List TerminalEvent). FailsAmong now list error) (sym left) (fails-next now next _ _ error leads h));
  }

  pub goes-last : (turn : Turn) → EventLeads now (event_of (get_or events i d)) turn → is_waiting turn ≡ false → HandsIn first events turn
  goes-last turn leads e = g.leads turn (subst (λ (list : List TerminalEvent). HandsIn now list turn) (sym left) (hands-last now _ _ turn leads e))

  pub goes-wrong : (error : RecordError) → EventFails now (event_of (get_or events i d)) error → FailsAmong first events error
  goes-wrong error fails = g.fails error (subst (λ (list : List TerminalEvent). FailsAmong now list error) (sym left) (fails-here now _ _ error fails))

pub goes-end : (first now : Live) (events : List TerminalEvent) (i : ℕ) → length events ≤ i → Goes first events now (drop i events) → HandsIn first events (Waiting now)
goes-end first now events i is g = g.leads (Waiting now) (hands-none now (drop i events) (drop_all i events is))

-- ---- paths

pub presses-append : (xs ys : List TerminalEvent) → presses (xs ++ ys) ≡ presses xs ++ presses ys
presses-append [] ys = refl
presses-append (x ∷ xs) ys = ap (λ (list : List Call). Press (event_of x) ∷ list) (presses-append xs ys)

-- all events, and then more
pub hands-after : (l next : Live) (events more : List TerminalEvent) (turn : Turn) → HandsIn l events (Waiting next) → HandsIn next more turn → HandsIn l (events ++ more) turn
hands-after l next events more turn g h =
    let whole : events ≡ g.handled = g.are ∙ ap (λ (list : List TerminalEvent). g.handled ++ list) (g.all refl) ∙ append-nil g.handled in
    record {
      handled = g.handled ++ h.handled;
      dropped = h.dropped;
      are = ap (λ (list : List TerminalEvent). list ++ more) whole ∙ ap (λ (list : List TerminalEvent). g.handled ++ list) h.are ∙ sym (append_assoc g.handled h.handled h.dropped);
      path = subst (λ (calls : List Call). Path (Waiting l) calls turn) (sym (presses-append g.handled h.handled)) (path-after g.path h.path);
      all = h.all;
    }

-- ---- what a program does

pub driven-path : {decoder : Decoder} {turn last : Turn} {inputs : List Input} {calls : List Call} → InputPath decoder turn inputs calls last → Path turn calls last
driven-path at_end = still
driven-path (by_bytes leads d) = path-after leads.hands_in.path (driven-path d)
driven-path (by_silence leads d) = path-after leads.hands_in.path (driven-path d)
driven-path (by_message g d) = say g (driven-path d)
driven-path (by_screen d) = resize (driven-path d)

pub driven-runs : (given : RecordState) (kind : TerminalKind) (decoder : Decoder) (inputs : List Input) (calls : List Call) (last : Turn)
    → IsTrue (is_accepted_state given) → InputPath decoder (Waiting (record { session = start given; kind = kind })) inputs calls last → AreRuns (start given) kind calls last
driven-runs given kind decoder inputs calls last accepted d = sessions-are-runs given kind calls accepted last (driven-path d)

-- ---- what it means

pub driven-means : {decoder : Decoder} {turn last : Turn} {inputs : List Input} {calls : List Call} (start : Start) (heard : List ℕ)
    → HasRead decoder start heard → InputPath decoder turn inputs calls last → InputsMean start heard inputs calls
driven-means start heard h at_end = no_more
driven-means start heard h (by_bytes {sent = sent} leads d) =
    let hears = leads.hears.hears start heard h in
    of_bytes leads.hands_in.handled leads.hands_in.dropped (hears.events ∙ ap (λ (list : List TerminalEvent). events_from start heard ++ list) (sym leads.hears.is ∙ leads.hands_in.are))
    (driven-means start (heard ++ sent) hears.heard d)
driven-means start heard h (by_silence leads d) =
    let rests = leads.tells start heard h in
    of_silence leads.hands_in.handled leads.hands_in.dropped (sym (ap option_to_list rests.event) ∙ leads.hands_in.are)
    (driven-means (after_silence start heard) [] rests.heard d)
driven-means start heard h (by_message g d) = of_message (driven-means start heard h d)
driven-means start heard h (by_screen d) = of_screen (driven-means start heard h d)

-- ---- bytes alone, in chunks

abbrev is_bytes : Input → Bool
is_bytes (Bytes sent) = true
is_bytes Silence = false
is_bytes (Message text) = false
is_bytes (Screen kind) = false

-- bytes are handed in where a session waits
bytes-wait : {decoder : Decoder} {turn last : Turn} {input : Input} {inputs : List Input} {calls : List Call}
    → InputPath decoder turn (input ∷ inputs) calls last → is_bytes input ≡ true → is_waiting turn ≡ true
bytes-wait (by_bytes leads d) e = refl
bytes-wait (by_silence leads d) e = refl
bytes-wait (by_message g d) e = cc
bytes-wait (by_screen d) e = refl

-- nothing is handed in where none waits
none-waits : {decoder : Decoder} {turn last : Turn} {calls : List Call} (chunks : List (List ℕ))
    → InputPath decoder turn (map Bytes chunks) calls last → is_waiting turn ≡ false → (chunks ≡ []) × (turn ≡ last)
none-waits [] at_end e = (refl, refl)
none-waits (chunk ∷ chunks) d e =
    let w = bytes-wait d refl in
    cc

-- what chunks tell, and that it is handed in
record Cut (start : Start) (heard : List ℕ) (l : Live) (chunks : List (List ℕ)) (last : Turn) : Type 0 where
  events : List TerminalEvent
  tells : events_from start (heard ++ all_bytes chunks) ≡ events_from start heard ++ events
  hands_in : HandsIn l events last

cut-last : (start : Start) (heard chunk : List ℕ) (l : Live) (chunks : List (List ℕ)) (turn last : Turn) {old new : Decoder} (leads : BytesLead l old new chunk turn)
    → HasRead old start heard → (chunks ≡ []) × (turn ≡ last) → Cut start heard l (chunk ∷ chunks) last
cut-last start heard chunk l chunks turn last leads h e =
    let hears = leads.hears.hears start heard h in
    record {
      events = leads.events;
      tells = ap (λ (list : List (List ℕ)). events_from start (heard ++ (chunk ++ all_bytes list))) e.0
          ∙ ap (λ (list : List ℕ). events_from start (heard ++ list)) (append-nil chunk)
          ∙ hears.events ∙ ap (λ (list : List TerminalEvent). events_from start heard ++ list) (sym leads.hears.is);
      hands_in = subst (λ (t : Turn). HandsIn l leads.events t) e.1 leads.hands_in;
    }

cut-more : (start : Start) (heard chunk : List ℕ) (l next : Live) (chunks : List (List ℕ)) (last : Turn) {old new : Decoder} (leads : BytesLead l old new chunk (Waiting next))
    → HasRead old start heard → Cut start (heard ++ chunk) next chunks last → Cut start heard l (chunk ∷ chunks) last
cut-more start heard chunk l next chunks last leads h k =
    let hears = leads.hears.hears start heard h in
    record {
      events = leads.events ++ k.events;
      tells = ap (events_from start) (sym (append_assoc heard chunk (all_bytes chunks))) ∙ k.tells
          ∙ ap (λ (list : List TerminalEvent). list ++ k.events) (hears.events ∙ ap (λ (list : List TerminalEvent). events_from start heard ++ list) (sym leads.hears.is))
          ∙ append_assoc (events_from start heard) leads.events k.events;
      hands_in = hands-after l next leads.events k.events last leads.hands_in k.hands_in;
    }

driven-cut : (chunks : List (List ℕ)) {decoder : Decoder} {l : Live} {last : Turn} {calls : List Call} (start : Start) (heard : List ℕ)
    → HasRead decoder start heard → InputPath decoder (Waiting l) (map Bytes chunks) calls last → Cut start heard l chunks last
driven-cut [] {l = l} start heard h at_end = record {
  events = [];
  tells = ap (events_from start) (append-nil heard) ∙ sym (append-nil (events_from start heard));
  hands_in = hands-none l [] refl;
}
driven-cut (chunk ∷ chunks) {l = l} {last = last} start heard h (by_bytes {turn = Waiting next} leads d) =
    cut-more start heard chunk l next chunks last leads h (driven-cut chunks start (heard ++ chunk) (leads.hears.hears start heard h).heard d)
driven-cut (chunk ∷ chunks) {l = l} {last = last} start heard h (by_bytes {turn = Editing a} leads d) =
    cut-last start heard chunk l chunks (Editing a) last leads h (none-waits chunks d refl)
driven-cut (chunk ∷ chunks) {l = l} {last = last} start heard h (by_bytes {turn = Accepted state} leads d) =
    cut-last start heard chunk l chunks (Accepted state) last leads h (none-waits chunks d refl)

decoded-none : stream_events false [] ≡ []
unfolding split_from
decoded-none = refl

pub chunks-hand-in : (decoder : Decoder) (l : Live) (chunks : List (List ℕ)) (calls : List Call) (last : Turn)
    → HasHeard decoder false [] → InputPath decoder (Waiting l) (map Bytes chunks) calls last → HandsIn l (stream_events false (all_bytes chunks)) last
chunks-hand-in decoder l chunks calls last h d =
    let k = driven-cut chunks at_first [] h d in
    subst (λ (events : List TerminalEvent). HandsIn l events last)
    (sym (k.tells ∙ ap (λ (list : List TerminalEvent). list ++ k.events) decoded-none)) k.hands_in
