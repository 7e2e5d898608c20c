-- What a decoder has heard: each byte tells what the definition has more of the longer stream.
use Rattle.std.proofs.Common.{◌≡◌, refl, sym, ◌∙◌, ap, ap₂, subst, ℕ, ◌+◌, ◌==◌, Bool, true, false, List, [], ◌∷◌, ◌++◌, length, Some, None, append_assoc, fold, Result, Ok, Err, OnErr, if◌then◌else◌}
use Rattle.std.proofs.lemmas.List.{append-nil}
use Rattle.std.proofs.lemmas.List.Sums.{fold-append}
use Rattle.scm_input.specs.declared.terminal.TerminalEvent.{TerminalEvent}
use Rattle.scm_terminal.specs.declared.decoder.Burst.{Burst}
use Rattle.scm_terminal.specs.declared.decoder.Burst.TheVariants as burst
use Rattle.scm_terminal.specs.declared.decoder.Decoder.{Decoder}
use Rattle.scm_terminal.specs.declared.decoder.EventPair.{EventPair}
use Rattle.scm_terminal.specs.declared.tokenizer.Tokenizer.{Tokenizer}
use Rattle.scm_terminal.specs.declared.tokens.Token.{Token}
use Rattle.scm_terminal.specs.declared.transitions.SilenceEffect.{SilenceEffect}
use Rattle.scm_terminal.specs.declared.transitions.SilenceEffect.TheVariants.{Keep}
use Rattle.scm_terminal.specs.declared.transitions.State.{State}
use Rattle.scm_terminal.specs.declared.transitions.State.TheVariants as state
use Rattle.scm_terminal.specs.declared.transitions.Transition.{Transition}
use Rattle.scm_terminal.specs.declared.transitions.Transition.TheVariants.{Continue, Emit, EmitAndRetry}
use Rattle.scm_terminal.specs.Bytes.{begins_sequence}
use Rattle.scm_terminal.specs.Streams.{Finished, first, Split, with_token, split_from, split, token_event, token_events, pasted_after, stream_events, is_pasted_after, rest}
use Rattle.scm_terminal.specs.Transitions.{ground_transition, escape_transition, transition_of, effect_of_silence}
use Rattle.scm_terminal.specs.Silences.{Start, Waiting, AfterEscape, at_first, read_as, events_from, is_pasted_from, rest_from, effect_on, event_of_effect, interrupt_event, is_interrupt, kept, after_effect}
use Rattle.scm_terminal.specs.Decoders.{tokenizer, decoder, burst_after, next, begun, events_of, Step, step_by, step_retry, step, hears, HasRead, Hears, Adds, IsFront, Rests}
use Rattle.scm_terminal.proofs.StreamLemmas.{by_move, goes_on, ground_goes, moves, Leads, later, Ends, ground_ends, before, split_says, skip, skip_one, with_one, length_with_one, Waits, Stands, stands_ends, stands_again, waits_alone, nothing_waits, again_first, again_later}

-- what a byte makes of what waits: signs, and what waits then
pub record Next (p : Bool) (done : Step) (w : List ℕ) (b : ℕ) : Type 0 where
  pub tokens : List Token
  pub waiting : List ℕ
  pub splits : (bs : List ℕ) → split (w ++ (b ∷ bs)) ≡ before tokens (split (waiting ++ bs))
  pub events : events_of done.events ≡ token_events p tokens
  pub pasted : done.tokenizer.is_pasted ≡ fold pasted_after p tokens
  pub stands : Stands done.tokenizer.state waiting

-- where nothing waits
ground_next : (p : Bool) (b : ℕ) (m : Transition) → ground_transition b ≡ m → Ends b m → Next p (step_by p b m) [] b
ground_next p b (Continue s) e ends = record {
  tokens = [];
  waiting = b ∷ [];
  splits = λ bs. refl;
  events = refl;
  pasted = refl;
  stands = record { is_open = ends.0; goes = λ bs. ground_goes b bs ∙ ap (λ m. by_move m 0 0 bs) e; ends = ends.1; again = again_first b s e };
}
ground_next p b (Emit token) e ends = record {
  tokens = token ∷ [];
  waiting = [];
  splits = λ bs. split_says b bs token 0 (ground_goes b bs ∙ ap (λ m. by_move m 0 0 bs) e);
  events = refl;
  pasted = refl;
  stands = refl;
}
ground_next p b (EmitAndRetry token) e ends = absurd ends

-- a byte that is read anew, behind a sign
again_next : (p : Bool) (token : Token) (a : ℕ) (v : List ℕ) (b : ℕ) → ((bs : List ℕ) → first (a ∷ (v ++ (b ∷ bs))) ≡ Finished token (length v))
    → (m : Transition) → ground_transition b ≡ m → Ends b m → Next p (step_retry (token_event p token) (pasted_after p token) m) (a ∷ v) b
unfolding ground_next
again_next p token a v b h (Continue s) e ends =
    let n = ground_next (pasted_after p token) b (Continue s) e ends in record {
      tokens = token ∷ [];
      waiting = b ∷ [];
      splits = λ bs. split_says a (v ++ (b ∷ bs)) token (length v) (h bs) ∙ ap (with_token token) (skip v (b ∷ bs));
      events = refl;
      pasted = refl;
      stands = n.stands;
    }
again_next p token a v b h (Emit next) e ends =
    let n = ground_next (pasted_after p token) b (Emit next) e ends in record {
      tokens = token ∷ (next ∷ []);
      waiting = [];
      splits = λ bs. split_says a (v ++ (b ∷ bs)) token (length v) (h bs) ∙ ap (with_token token) (skip v (b ∷ bs) ∙ n.splits bs);
      events = refl;
      pasted = refl;
      stands = refl;
    }
again_next p token a v b h (EmitAndRetry next) e ends = absurd ends

-- where something waits
waits_next : (p : Bool) (s : State) (a : ℕ) (v : List ℕ) → Waits s a v → (b : ℕ) (m : Transition) → transition_of s b ≡ m
    → ((bs : List ℕ) → first (a ∷ (v ++ (b ∷ bs))) ≡ by_move m (length v + 1) (length v) bs) → Leads (effect_on (a ∷ (v ++ (b ∷ [])))) m → Next p (step_by p b m) (a ∷ v) b
waits_next p s a v w b (Continue t) m h later = record {
  tokens = [];
  waiting = a ∷ (v ++ (b ∷ []));
  splits = λ bs. ap (λ (l : List ℕ). split (a ∷ l)) (sym (with_one v b bs));
  events = refl;
  pasted = refl;
  stands = record {
    goes = λ bs. ap (λ (l : List ℕ). first (a ∷ l)) (with_one v b bs) ∙ h bs ∙ ap (λ n. goes_on t n bs) (sym (length_with_one v b));
    is_open = later.0;
    ends = later.1;
    again = again_later s a v w b t m;
  };
}
waits_next p s a v w b (Emit token) m h later = record {
  tokens = token ∷ [];
  waiting = [];
  splits = λ bs. split_says a (v ++ (b ∷ bs)) token (length v + 1) (h bs) ∙ ap (with_token token) (skip_one v b bs);
  events = refl;
  pasted = refl;
  stands = refl;
}
waits_next p s a v w b (EmitAndRetry token) m h later = again_next p token a v b h (ground_transition b) refl (ground_ends b)

nothing_next : (p : Bool) (s : State) → s ≡ state.Ground → (b : ℕ) → Next p (step_by p b (transition_of s b)) [] b
unfolding transition_of
nothing_next p s e b =
    subst (λ (s : State). Next p (step_by p b (transition_of s b)) [] b) (sym e) (ground_next p b (ground_transition b) refl (ground_ends b))

next_at : (p : Bool) (s : State) (w : List ℕ) → Stands s w → (b : ℕ) → Next p (step_by p b (transition_of s b)) w b
next_at p s [] h b = nothing_next p s h b
next_at p s (a ∷ v) h b =
    waits_next p s a v h b (transition_of s b) refl (λ bs. h.goes (b ∷ bs) ∙ moves s h.is_open (length v) b bs) (later s h.is_open a v h.ends b)

next_of : (d : Tokenizer) (w : List ℕ) → Stands d.state w → (b : ℕ) → Next d.is_pasted (step d b) w b
unfolding step
next_of d w h b = next_at d.is_pasted d.state w h b

-- ---- all bytes

-- the bytes that it has heard are these signs and what waits, whatever comes behind them
pub record Knows (p : Bool) (bytes : List ℕ) (d : Tokenizer) : Type 0 where
  pub tokens : List Token
  pub waiting : List ℕ
  pub splits : (bs : List ℕ) → split (bytes ++ bs) ≡ before tokens (split (waiting ++ bs))
  pub pasted : d.is_pasted ≡ fold pasted_after p tokens
  pub stands : Stands d.state waiting

pub knows_start : (p : Bool) → Knows p [] (tokenizer p state.Ground)
knows_start p = record { tokens = []; waiting = []; splits = λ bs. refl; pasted = refl; stands = refl }

-- a stream of its own
pub whole : (p : Bool) (bytes : List ℕ) (d : Tokenizer) (k : Knows p bytes d) → split bytes ≡ record { tokens = k.tokens; rest = k.waiting }
whole p bytes d k =
    ap split (sym (append-nil bytes)) ∙ k.splits [] ∙ ap (λ (l : List ℕ). before k.tokens (split l)) (append-nil k.waiting)
    ∙ ap (before k.tokens) (waits_alone d.state k.waiting k.stands)
    ∙ ap (λ (l : List Token). record { tokens = l; rest = k.waiting }) (append-nil k.tokens)

knows_next : (p : Bool) (bytes : List ℕ) (d : Tokenizer) → Knows p bytes d → (b : ℕ) → Knows p (bytes ++ (b ∷ [])) (hears d b)
knows_next p bytes d k b =
    let n = next_of d k.waiting k.stands b in record {
      tokens = k.tokens ++ n.tokens;
      waiting = n.waiting;
      splits = λ bs.
          ap split (with_one bytes b bs) ∙ k.splits (b ∷ bs) ∙ ap (before k.tokens) (n.splits bs)
          ∙ ap (λ (l : List Token). record { tokens = l; rest = (split (n.waiting ++ bs)).rest }) (sym (append_assoc k.tokens n.tokens (split (n.waiting ++ bs)).tokens));
      pasted = n.pasted ∙ ap (λ q. fold pasted_after q n.tokens) k.pasted ∙ sym (fold-append pasted_after p k.tokens n.tokens);
      stands = n.stands;
    }

pub knows_all : (p : Bool) (bytes : List ℕ) (d : Tokenizer) → Knows p bytes d → (bs : List ℕ) → Knows p (bytes ++ bs) (fold hears d bs)
knows_all p bytes d k [] = subst (λ (l : List ℕ). Knows p l d) (sym (append-nil bytes)) k
knows_all p bytes d k (b ∷ bs) =
    subst (λ (l : List ℕ). Knows p l (fold hears (hears d b) bs)) (with_one bytes b bs) (knows_all p (bytes ++ (b ∷ [])) (hears d b) (knows_next p bytes d k b) bs)

-- a tokenizer that has read the bytes
abbrev pub Follows : Tokenizer → Bool → List ℕ → Type 0
Follows d p bytes = d ≡ fold hears (tokenizer p state.Ground) bytes

pub knows : (d : Tokenizer) (p : Bool) (bytes : List ℕ) → Follows d p bytes → Knows p bytes d
knows d p bytes h = subst (λ (x : Tokenizer). Knows p bytes x) (sym h) (knows_all p [] (tokenizer p state.Ground) (knows_start p) bytes)

pub token_events-append : (p : Bool) (xs ys : List Token) → token_events p (xs ++ ys) ≡ token_events p xs ++ token_events (fold pasted_after p xs) ys
token_events-append p [] ys = refl
token_events-append p (x ∷ xs) ys = ap (λ (l : List TerminalEvent). token_event p x ∷ l) (token_events-append (pasted_after p x) xs ys)

pub hears_event : (d : Tokenizer) (p : Bool) (bytes : List ℕ) (k : Knows p bytes d) (b : ℕ)
    → stream_events p (bytes ++ (b ∷ [])) ≡ stream_events p bytes ++ events_of (step d b).events
unfolding knows_next
hears_event d p bytes k b =
    let n = next_of d k.waiting k.stands b in
    ap (λ (x : Split). token_events p x.tokens) (whole p (bytes ++ (b ∷ [])) (hears d b) (knows_next p bytes d k b))
    ∙ token_events-append p k.tokens n.tokens
    ∙ ap (λ (l : List TerminalEvent). l ++ token_events (fold pasted_after p k.tokens) n.tokens) (ap (λ (x : Split). token_events p x.tokens) (sym (whole p bytes d k)))
    ∙ ap (λ (l : List TerminalEvent). stream_events p bytes ++ l) (ap (λ q. token_events q n.tokens) (sym k.pasted) ∙ sym n.events)

pub follows_next : (d : Tokenizer) (p : Bool) (bytes : List ℕ) → Follows d p bytes → (b : ℕ) → Follows (hears d b) p (bytes ++ (b ∷ []))
follows_next d p bytes h b =
    ap (λ (x : Tokenizer). hears x b) h ∙ sym (fold-append hears (tokenizer p state.Ground) bytes (b ∷ []))

-- the events of a byte more
pub follows_event : (d : Tokenizer) (p : Bool) (bytes : List ℕ) → Follows d p bytes → (b : ℕ)
    → stream_events p (bytes ++ (b ∷ [])) ≡ stream_events p bytes ++ events_of (step d b).events
follows_event d p bytes h b = hears_event d p bytes (knows d p bytes h) b

-- ---- bursts

-- behind an escape that has ended, a byte does what it does behind the escape, or first
ended_step : (b : ℕ) (t : Bool) → begins_sequence b ≡ t → step (tokenizer false state.EndedEscape) b ≡ step (tokenizer false (if t then state.Escape else state.Ground)) b
unfolding step transition_of
ended_step b true e = ap (λ (t : Bool). step_by false b (if t then escape_transition b else ground_transition b)) e
ended_step b false e = ap (λ (t : Bool). step_by false b (if t then escape_transition b else ground_transition b)) e

escape_heard : fold hears (tokenizer false state.Ground) (27 ∷ []) ≡ tokenizer false state.Escape
unfolding step transition_of
escape_heard = refl

-- what a burst behind it makes of the tokenizer
ended_follows : (b : ℕ) (bs : List ℕ) → Follows (fold hears (tokenizer false state.EndedEscape) (b ∷ bs)) false (read_as AfterEscape (b ∷ bs))
ended_follows b bs = at (begins_sequence b) refl
  where
    at : (t : Bool) → begins_sequence b ≡ t → Follows (fold hears (hears (tokenizer false state.EndedEscape) b) bs) false (if t then 27 ∷ b ∷ bs else b ∷ bs)
    at true e = ap (λ (x : Step). fold hears x.tokenizer bs) (ended_step b true e) ∙ ap (λ (x : Tokenizer). fold hears x (b ∷ bs)) (sym escape_heard)
    at false e = ap (λ (x : Step). fold hears x.tokenizer bs) (ended_step b false e)

-- the tokenizer of a decoder
fold-next : (d : Decoder) (bs : List ℕ) → fold next d bs ≡ decoder (fold hears d.tokenizer bs) (fold burst_after d.burst bs)
fold-next d [] = refl
fold-next d (b ∷ bs) = fold-next (next d b) bs

reads : (start : Start) (bytes : List ℕ) → fold next (begun start) bytes ≡ decoder (fold hears (begun start).tokenizer bytes) (fold burst_after burst.Empty bytes)
reads (Waiting p w) bytes = fold-next (begun (Waiting p w)) bytes
reads AfterEscape bytes = fold-next (begun AfterEscape) bytes

pub burst_read : (d : Decoder) (start : Start) (bytes : List ℕ) → HasRead d start bytes → d.burst ≡ fold burst_after burst.Empty bytes
unfolding HasRead
burst_read d start bytes h = ap (λ (x : Decoder). x.burst) (h ∙ reads start bytes)

waiting_follows : (d : Decoder) (p : Bool) (w bytes : List ℕ) → HasRead d (Waiting p w) bytes → Follows d.tokenizer p (w ++ bytes)
unfolding HasRead
waiting_follows d p w bytes h =
    ap (λ (x : Decoder). x.tokenizer) (h ∙ reads (Waiting p w) bytes) ∙ sym (fold-append hears (tokenizer p state.Ground) w bytes)

escape_follows : (d : Decoder) (b : ℕ) (bs : List ℕ) → HasRead d AfterEscape (b ∷ bs) → Follows d.tokenizer false (read_as AfterEscape (b ∷ bs))
unfolding HasRead
escape_follows d b bs h = ap (λ (x : Decoder). x.tokenizer) (h ∙ reads AfterEscape (b ∷ bs)) ∙ ended_follows b bs

pub escape_begun : (d : Decoder) → HasRead d AfterEscape [] → d ≡ begun AfterEscape
unfolding HasRead
escape_begun d h = h

read_next : (d : Decoder) (start : Start) (bytes : List ℕ) → HasRead d start bytes → (b : ℕ) → HasRead (next d b) start (bytes ++ (b ∷ []))
unfolding HasRead
read_next d start bytes h b = ap (λ (x : Decoder). next x b) h ∙ sym (fold-append next (begun start) bytes (b ∷ []))

nothing_said : (p : Bool) → stream_events p [] ≡ []
unfolding split_from
nothing_said p = refl

escape_says : stream_events false (27 ∷ []) ≡ []
unfolding split_from first
escape_says = refl

-- the events of a byte more in a burst
read_event : (d : Decoder) (start : Start) (bytes : List ℕ) → HasRead d start bytes → (b : ℕ)
    → events_from start (bytes ++ (b ∷ [])) ≡ events_from start bytes ++ events_of (step d.tokenizer b).events
read_event d (Waiting p w) bytes h b =
    ap (stream_events p) (sym (append_assoc w bytes (b ∷ []))) ∙ follows_event d.tokenizer p (w ++ bytes) (waiting_follows d p w bytes h) b
read_event d AfterEscape [] h b = at (begins_sequence b) refl
  where
    said : (x : Step) → step (tokenizer false state.EndedEscape) b ≡ x → events_of x.events ≡ events_of (step d.tokenizer b).events
    said x e = ap (λ (x : Step). events_of x.events) (sym e) ∙ ap (λ (d : Decoder). events_of (step d.tokenizer b).events) (sym (escape_begun d h))

    at : (t : Bool) → begins_sequence b ≡ t → stream_events false (if t then 27 ∷ b ∷ [] else b ∷ []) ≡ stream_events false [] ++ events_of (step d.tokenizer b).events
    at true e =
        follows_event (tokenizer false state.Escape) false (27 ∷ []) (sym escape_heard) b
        ∙ ap₂ (λ (l m : List TerminalEvent). l ++ m) (escape_says ∙ sym (nothing_said false)) (said _ (ended_step b true e))
    at false e =
        follows_event (tokenizer false state.Ground) false [] refl b
        ∙ ap (λ (m : List TerminalEvent). stream_events false [] ++ m) (said _ (ended_step b false e))
read_event d AfterEscape (c ∷ bs) h b =
    ap (stream_events false) (longer (begins_sequence c)) ∙ follows_event d.tokenizer false (read_as AfterEscape (c ∷ bs)) (escape_follows d c bs h) b
  where
    longer : (t : Bool) → (if t then 27 ∷ c ∷ (bs ++ (b ∷ [])) else c ∷ (bs ++ (b ∷ []))) ≡ (if t then 27 ∷ c ∷ bs else c ∷ bs) ++ (b ∷ [])
    longer true = refl
    longer false = refl

-- a byte more
pub hears_byte : (old new : Decoder) (pair : EventPair) (b : ℕ) → pair ≡ (step old.tokenizer b).events → new ≡ next old b
    → (start : Start) (bytes : List ℕ) → HasRead old start bytes → Hears new (b ∷ []) (events_of pair) start bytes
hears_byte old new pair b e f start bytes h = record {
  heard = subst (λ (d : Decoder). HasRead d start (bytes ++ (b ∷ []))) (sym f) (read_next old start bytes h b);
  events = read_event old start bytes h b ∙ ap (λ (t : EventPair). events_from start bytes ++ events_of t) (sym e);
}

-- no byte
pub adds_none : (d : Decoder) (more : List ℕ) (events : List TerminalEvent) → more ≡ [] → Adds d d more events events
adds_none d more events e = record {
  found = [];
  is = sym (append-nil events);
  hears = λ start bytes h. record {
    heard = subst (λ (l : List ℕ). HasRead d start (bytes ++ l)) (sym e) (subst (λ (l : List ℕ). HasRead d start l) (sym (append-nil bytes)) h);
    events = ap (λ (l : List ℕ). events_from start (bytes ++ l)) e ∙ ap (events_from start) (append-nil bytes) ∙ sym (append-nil (events_from start bytes));
  };
}

-- bytes, and one byte more
pub adds_more : (old d new : Decoder) (more longer : List ℕ) (b : ℕ) (before events after : List TerminalEvent) (pair : EventPair) → Adds old d more before events
    → ((start : Start) (bytes : List ℕ) → HasRead d start bytes → Hears new (b ∷ []) (events_of pair) start bytes)
    → after ≡ events ++ events_of pair → longer ≡ more ++ (b ∷ []) → Adds old new longer before after
adds_more old d new more longer b before events after pair a step e f = record {
  found = a.found ++ events_of pair;
  is = e ∙ ap (λ (l : List TerminalEvent). l ++ events_of pair) a.is ∙ append_assoc before a.found (events_of pair);
  hears = λ start bytes h.
      let one = a.hears start bytes h in
      let two = step start (bytes ++ more) one.heard in
      let joins : bytes ++ longer ≡ (bytes ++ more) ++ (b ∷ []) = ap (λ (l : List ℕ). bytes ++ l) f ∙ sym (append_assoc bytes more (b ∷ [])) in
      record {
        heard = subst (λ (l : List ℕ). HasRead new start l) (sym joins) two.heard;
        events = ap (events_from start) joins ∙ two.events ∙ ap (λ (l : List TerminalEvent). l ++ events_of pair) one.events ∙ append_assoc (events_from start bytes) a.found (events_of pair);
      };
}

-- where an event could not be added
pub front_more : (before events after found : List TerminalEvent) → events ≡ before ++ found → IsFront events after → IsFront before after
front_more before events after found e front =
    (found ++ front.0, front.1 ∙ ap (λ (l : List TerminalEvent). l ++ front.0) e ∙ append_assoc before found front.0)

pub on_err : {T E : Type 0} (r : Result T E) (P : Type 0) → P → OnErr r P
on_err (Ok x) P h = tt
on_err (Err e) P h = h

-- ---- silence

pub pasted_is : (d : Tokenizer) (p : Bool) (bytes : List ℕ) → Follows d p bytes → is_pasted_after p bytes ≡ d.is_pasted
pasted_is d p bytes h =
    let k = knows d p bytes h in
    ap (λ (x : Split). fold pasted_after p x.tokens) (whole p bytes d k) ∙ sym k.pasted

pub rest_ends : (d : Tokenizer) (p : Bool) (bytes : List ℕ) → Follows d p bytes → effect_on (rest bytes) ≡ effect_of_silence d.state
rest_ends d p bytes h =
    let k = knows d p bytes h in
    ap (λ (x : Split). effect_on x.rest) (whole p bytes d k) ∙ stands_ends d.state k.waiting k.stands

pub rest_nothing : (d : Tokenizer) (p : Bool) (bytes : List ℕ) → Follows d p bytes → d.state ≡ state.Ground → rest bytes ≡ []
rest_nothing d p bytes h e =
    let k = knows d p bytes h in
    ap (λ (x : Split). x.rest) (whole p bytes d k) ∙ nothing_waits d.state k.waiting k.stands e

-- the unfinished token is one
pub rest_alone : (d : Tokenizer) (p : Bool) (bytes : List ℕ) → Follows d p bytes → split (rest bytes) ≡ record { tokens = []; rest = rest bytes }
rest_alone d p bytes h =
    let k = knows d p bytes h in
    let is : rest bytes ≡ k.waiting = ap (λ (x : Split). x.rest) (whole p bytes d k) in
    subst (λ (w : List ℕ). split w ≡ record { tokens = []; rest = w }) (sym is) (waits_alone d.state k.waiting k.stands)

-- the unfinished token, read anew
pub rest_again : (d : Tokenizer) (p : Bool) (bytes : List ℕ) → Follows d p bytes → (q : Bool) → fold hears (tokenizer q state.Ground) (rest bytes) ≡ tokenizer q d.state
rest_again d p bytes h q =
    let k = knows d p bytes h in
    ap (λ (x : Split). fold hears (tokenizer q state.Ground) x.rest) (whole p bytes d k) ∙ stands_again d.state k.waiting k.stands q

-- what a burst leaves, whatever stood before it
pub record Left (d : Decoder) (start : Start) (bytes : List ℕ) : Type 0 where
  pub pasted : is_pasted_from start bytes ≡ d.tokenizer.is_pasted
  pub ends : effect_on (rest_from start bytes) ≡ effect_of_silence d.tokenizer.state
  -- within a paste the unfinished token waits, and out of it what is kept
  pub waits : d.tokenizer.is_pasted ≡ true → decoder d.tokenizer burst.Empty ≡ begun (Waiting true (rest_from start bytes))
  pub keeps : d.tokenizer.is_pasted ≡ false → decoder d.tokenizer burst.Empty ≡ begun (kept start bytes)

left_at : (d : Decoder) (p : Bool) (bytes : List ℕ) → Follows d.tokenizer p bytes → (q : Bool) → d.tokenizer.is_pasted ≡ q → decoder d.tokenizer burst.Empty ≡ begun (Waiting q (rest bytes))
left_at d p bytes h q e =
    ap (λ (b : Bool). decoder (tokenizer b d.tokenizer.state) burst.Empty) e ∙ ap (λ (t : Tokenizer). decoder t burst.Empty) (sym (rest_again d.tokenizer p bytes h q))

nothing_pasted : is_pasted_after false [] ≡ false
unfolding split_from
nothing_pasted = refl

nothing_ends : effect_on (rest []) ≡ Keep
unfolding split_from
nothing_ends = refl

left_of : (d : Decoder) (start : Start) (bytes : List ℕ) → HasRead d start bytes → Left d start bytes
left_of d (Waiting p w) bytes h =
    let f = waiting_follows d p w bytes h in
    record {
      pasted = pasted_is d.tokenizer p (w ++ bytes) f;
      ends = rest_ends d.tokenizer p (w ++ bytes) f;
      waits = left_at d p (w ++ bytes) f true;
      keeps = left_at d p (w ++ bytes) f false;
    }
left_of d AfterEscape [] h =
    let is : d.tokenizer ≡ tokenizer false state.EndedEscape = ap (λ (x : Decoder). x.tokenizer) (escape_begun d h) in
    record {
      pasted = nothing_pasted ∙ ap (λ (x : Tokenizer). x.is_pasted) (sym is);
      ends = nothing_ends ∙ ap (λ (x : Tokenizer). effect_of_silence x.state) (sym is);
      waits = λ e. absurd (let f : false ≡ true = ap (λ (x : Tokenizer). x.is_pasted) (sym is) ∙ e in cc);
      keeps = λ e. ap (λ (t : Tokenizer). decoder t burst.Empty) is;
    }
left_of d AfterEscape (b ∷ bs) h =
    let f = escape_follows d b bs h in
    record {
      pasted = pasted_is d.tokenizer false (read_as AfterEscape (b ∷ bs)) f;
      ends = rest_ends d.tokenizer false (read_as AfterEscape (b ∷ bs)) f;
      waits = left_at d false (read_as AfterEscape (b ∷ bs)) f true;
      keeps = left_at d false (read_as AfterEscape (b ∷ bs)) f false;
    }

-- a burst that is the byte of Ctrl-C alone
abbrev pub is_lone : Burst → Bool
is_lone burst.Empty = false
is_lone burst.Interrupt = true
is_lone burst.Other = false

others : (bytes : List ℕ) → is_lone (fold burst_after burst.Other bytes) ≡ false
others [] = refl
others (b ∷ bs) = others bs

lone : (bytes : List ℕ) → is_interrupt bytes ≡ is_lone (fold burst_after burst.Empty bytes)
lone [] = refl
lone (b ∷ []) = at (b == 3)
  where
    at : (t : Bool) → t ≡ is_lone (if t then burst.Interrupt else burst.Other)
    at true = refl
    at false = refl
lone (b ∷ c ∷ bs) = at (b == 3)
  where
    at : (t : Bool) → false ≡ is_lone (fold burst_after (burst_after (if t then burst.Interrupt else burst.Other) c) bs)
    at true = sym (others bs)
    at false = sym (others bs)

-- a decoder that begins a burst
begins : (d : Decoder) (start : Start) → d ≡ begun start → HasRead d start []
unfolding HasRead
begins d start e = e

-- within what is pasted: the end
pub rests_interrupt : (d new : Decoder) → d.tokenizer.is_pasted ≡ true → d.burst ≡ burst.Interrupt → new ≡ begun at_first
    → (start : Start) (bytes : List ℕ) → HasRead d start bytes → Rests new (Some interrupt_event) start bytes
rests_interrupt d new e f g start bytes h =
    let left = left_of d start bytes h in
    let pasted : is_pasted_from start bytes ≡ true = left.pasted ∙ e in
    let is : is_interrupt bytes ≡ true = lone bytes ∙ ap is_lone (sym (burst_read d start bytes h) ∙ f) in
    record { event = rw (pasted, is) refl; heard = rw (pasted, is) (begins new at_first g) }

-- or nothing
pub rests_pasted : (d new : Decoder) → d.tokenizer.is_pasted ≡ true → is_lone d.burst ≡ false → new ≡ decoder d.tokenizer burst.Empty
    → (start : Start) (bytes : List ℕ) → HasRead d start bytes → Rests new None start bytes
rests_pasted d new e f g start bytes h =
    let left = left_of d start bytes h in
    let pasted : is_pasted_from start bytes ≡ true = left.pasted ∙ e in
    let is : is_interrupt bytes ≡ false = lone bytes ∙ ap is_lone (sym (burst_read d start bytes h)) ∙ f in
    record { event = rw (pasted, is) refl; heard = rw (pasted, is) (begins new (Waiting true (rest_from start bytes)) (g ∙ left.waits e)) }

-- out of it, by the effect on the unfinished token
pub rests_plain : (d new : Decoder) (effect : SilenceEffect) → d.tokenizer.is_pasted ≡ false → effect_of_silence d.tokenizer.state ≡ effect
    → ((start : Start) (bytes : List ℕ) → decoder d.tokenizer burst.Empty ≡ begun (kept start bytes) → new ≡ begun (after_effect effect start bytes))
    → (start : Start) (bytes : List ℕ) → HasRead d start bytes → Rests new (event_of_effect effect) start bytes
rests_plain d new effect e f g start bytes h =
    let left = left_of d start bytes h in
    let pasted : is_pasted_from start bytes ≡ false = left.pasted ∙ e in
    let is : effect_on (rest_from start bytes) ≡ effect = left.ends ∙ f in
    record { event = rw (pasted, is) refl; heard = rw (pasted, is) (begins new (after_effect effect start bytes) (g start bytes (left.keeps e))) }
