-- What silences tear.
use Rattle.std.proofs.Common.{◌≡◌, refl, sym, ◌∙◌, ap, ap₂, subst, ℕ, zero, suc, Bool, true, false, ◌==◌, List, [], ◌∷◌, ◌++◌, ◌&&◌, ◌||◌, Option, Some, None, append_assoc, fold, ◌⊎◌, inl, inr, ⊎_elim, if◌then◌else◌, option_to_list}
use Rattle.std.proofs.lemmas.Bool.{eqb-true}
use Rattle.std.proofs.lemmas.List.{append-nil}
use Rattle.std.specs.List.{AllZip}
use Rattle.scm_input.specs.KeyTable.{KeyRow, key_table}
use Rattle.scm_input.specs.declared.terminal.TerminalEvent.{TerminalEvent}
use Rattle.scm_terminal.specs.declared.tokenizer.Tokenizer.{Tokenizer}
use Rattle.scm_terminal.specs.declared.tokens.Token.{Token}
use Rattle.scm_terminal.specs.declared.tokens.Token.TheVariants.{Event}
use Rattle.scm_terminal.specs.declared.transitions.SilenceEffect.{SilenceEffect}
use Rattle.scm_terminal.specs.declared.transitions.SilenceEffect.TheVariants.{Keep, EndEscape, Drop}
use Rattle.scm_terminal.specs.declared.transitions.State.{State}
use Rattle.scm_terminal.specs.declared.transitions.State.TheVariants as state
use Rattle.scm_terminal.specs.Bytes.{is_parameter, is_final, is_continuation, begins_control_string, begins_sequence}
use Rattle.scm_terminal.specs.ByteKeys.{byte_key}
use Rattle.scm_terminal.specs.Mouse.{mouse_event}
use Rattle.scm_terminal.specs.Sequences.{new_sequence, with_parameter, token_of, trailing_bytes}
use Rattle.scm_terminal.specs.Characters.{lead_character, with_continuation}
use Rattle.scm_terminal.specs.Streams.{Found, Unfinished, Finished, first, Split, with_token, split_from, split, token_events, pasted_after, stream_events, is_pasted_after, rest, AreOther, HasMark, paste_end}
use Rattle.scm_terminal.specs.Transitions.{transition_of}
use Rattle.scm_terminal.specs.Decoders.{tokenizer, events_of, step, hears}
use Rattle.scm_terminal.specs.Silences.{Start, Waiting, AfterEscape, at_first, is_pasted_at, read_as, events_from, is_pasted_from, rest_from, effect_on, event_of_effect, escape_event, is_interrupt, idle_event, kept, after_effect, after_silence, burst_events, after_bursts, bytes_of_bursts, press}
use Rattle.scm_terminal.specs.KeyBytes.{key_bytes}
use Rattle.scm_terminal.specs.Tearing.{IsTorn, IsToken, ComesOnce, SurvivesTearing, is_sequence, AreTorn, IsFreed, HaveNoInterrupt, StayPastedTorn, IsSilent}
use Rattle.scm_terminal.proofs.StreamLemmas.{before, split_says, split_more, split_nil}
use Rattle.scm_terminal.proofs.HeardLemmas.{Follows, follows_event, follows_next, pasted_is, rest_again, rest_alone}
use Rattle.scm_terminal.proofs.LawLemmas.{after, after_heard, cut_split}
use Rattle.scm_terminal.proofs.MarkLemmas.{stay_pasted}

-- ---- bytes without a whole token

abbrev bare : List ℕ → Split
bare w = record { tokens = []; rest = w }

not_first : (t : Token) (ts : List Token) → t ∷ ts ≡ [] → ⊥
not_first t ts e = cc

bare_of : (w : List ℕ) → (split w).tokens ≡ [] → split w ≡ bare w
bare_of [] e = split_nil
bare_of (b ∷ bs) e = at (first (b ∷ bs)) refl
  where
    at : (f : Found) → first (b ∷ bs) ≡ f → split (b ∷ bs) ≡ record { tokens = []; rest = b ∷ bs }
    at Unfinished g = split_more b bs g
    at (Finished token n) g =
        absurd (not_first token (split_from n bs).tokens (sym (ap (λ (s : Split). s.tokens) (split_says b bs token n g)) ∙ e))

one_left : (t : Token) (ts more : List Token) (event : TerminalEvent) → t ∷ (ts ++ more) ≡ Event event ∷ [] → more ≡ []
one_left t [] more event e = cc
one_left t (s ∷ ts) more event e = absurd (let f : s ∷ (ts ++ more) ≡ [] = cc in cc)

none_joined : (a c : List ℕ) → a ++ c ≡ [] → c ≡ []
none_joined [] c e = e
none_joined (b ∷ a) c e = absurd (cc)

-- the front of one token
front : (a c : List ℕ) (event : TerminalEvent) → (c ≡ [] → ⊥) → IsToken (a ++ c) event → split a ≡ bare a
front a c event h e = bare_of a (at (split a).tokens refl)
  where
    at : (tokens : List Token) → (split a).tokens ≡ tokens → tokens ≡ []
    at [] f = refl
    at (t ∷ ts) f =
        let joined : before (t ∷ ts) (split (rest a ++ c)) ≡ record { tokens = Event event ∷ []; rest = [] } =
        ap (λ (l : List Token). before l (split (rest a ++ c))) (sym f) ∙ sym (cut_split a c) ∙ e in
        let none : (split (rest a ++ c)).tokens ≡ [] = one_left t ts (split (rest a ++ c)).tokens event (ap (λ (s : Split). s.tokens) joined) in
        let is : rest a ++ c ≡ [] = sym (ap (λ (s : Split). s.rest) (bare_of (rest a ++ c) none)) ∙ ap (λ (s : Split). s.rest) joined in
        absurd (h (none_joined (rest a) c is))

-- ---- a burst of a sequence

-- outside of a paste, the burst is read as the bytes
record Burst (start : Start) (x y : List ℕ) : Type 0 where
  plain : is_pasted_at start ≡ false
  reads : read_as start x ≡ y
  keeps : kept start x ≡ Waiting false (rest y)

burst_waiting : (w x : List ℕ) → Burst (Waiting false w) x (w ++ x)
burst_waiting w x = record { plain = refl; reads = refl; keeps = refl }

burst_escape : (c : ℕ) (x : List ℕ) → begins_sequence c ≡ true → Burst AfterEscape (c ∷ x) (27 ∷ c ∷ x)
burst_escape c x e =
    let is : (if begins_sequence c then 27 ∷ c ∷ x else c ∷ x) ≡ 27 ∷ c ∷ x = ap (λ (t : Bool). if t then 27 ∷ c ∷ x else c ∷ x) e in
    record { plain = refl; reads = is; keeps = ap (λ (w : List ℕ). Waiting false (rest w)) is }

-- what stands after it
abbrev stands_then : SilenceEffect → List ℕ → Start
stands_then Keep y = Waiting false y
stands_then EndEscape y = AfterEscape
stands_then Drop y = at_first

then_is : (f : SilenceEffect) (start : Start) (x y : List ℕ) → kept start x ≡ Waiting false y → after_effect f start x ≡ stands_then f y
then_is Keep start x y e = e
then_is EndEscape start x y e = refl
then_is Drop start x y e = refl

-- the events of a burst, of its silence, and of the bursts after it
all_events : (start : Start) (x : List ℕ) (bursts : List (List ℕ)) (events : List TerminalEvent) (event : Option TerminalEvent) (next : Start)
    → events_from start x ≡ events → idle_event start x ≡ event → after_silence start x ≡ next
    → burst_events start (x ∷ bursts) ≡ events ++ (option_to_list event ++ burst_events next bursts)
all_events start x bursts events event next e f g =
    ap₂ (λ (l m : List TerminalEvent). l ++ m) e (ap₂ (λ (o : Option TerminalEvent) (s : Start). option_to_list o ++ burst_events s bursts) f g)

-- a burst outside of a paste that leaves none
record Plain (start : Start) (x : List ℕ) (events : List TerminalEvent) (f : SilenceEffect) (next : Start) : Type 0 where
  says : events_from start x ≡ events
  idles : idle_event start x ≡ event_of_effect f
  leads : after_silence start x ≡ next

plain_of : (start : Start) (x : List ℕ) (events : List TerminalEvent) (f : SilenceEffect) (next : Start)
    → events_from start x ≡ events → is_pasted_from start x ≡ false → effect_on (rest_from start x) ≡ f → after_effect f start x ≡ next → Plain start x events f next
plain_of start x events f next e p r g = record {
  says = e;
  idles = rw (p, r) refl;
  leads = rw (p, r) g;
}

-- the sequence has not ended
quiet_burst : (start : Start) (x y : List ℕ) → Burst start x y → split y ≡ bare y → (f : SilenceEffect) → effect_on y ≡ f → Plain start x [] f (stands_then f y)
quiet_burst start x y b e f g =
    plain_of start x [] f (stands_then f y)
    (ap₂ (λ (p : Bool) (w : List ℕ). stream_events p w) b.plain b.reads ∙ ap (λ (s : Split). token_events false s.tokens) e)
    (ap₂ (λ (p : Bool) (w : List ℕ). is_pasted_after p w) b.plain b.reads ∙ ap (λ (s : Split). fold pasted_after false s.tokens) e)
    (ap (λ (w : List ℕ). effect_on (rest w)) b.reads ∙ ap (λ (s : Split). effect_on s.rest) e ∙ g)
    (then_is f start x y (b.keeps ∙ ap (λ (s : Split). Waiting false s.rest) e))

-- it has
last_burst : (start : Start) (x y : List ℕ) (event : TerminalEvent) → Burst start x y → IsToken y event → Plain start x (event ∷ []) Keep at_first
last_burst start x y event b e =
    plain_of start x (event ∷ []) Keep at_first
    (ap₂ (λ (p : Bool) (w : List ℕ). stream_events p w) b.plain b.reads ∙ ap (λ (s : Split). token_events false s.tokens) e)
    (ap₂ (λ (p : Bool) (w : List ℕ). is_pasted_after p w) b.plain b.reads ∙ ap (λ (s : Split). fold pasted_after false s.tokens) e)
    (ap (λ (w : List ℕ). effect_on (rest w)) b.reads ∙ ap (λ (s : Split). effect_on s.rest) e)
    (b.keeps ∙ ap (λ (s : Split). Waiting false s.rest) e)

-- nothing comes
empty_burst : Plain at_first [] [] Keep at_first
unfolding split_from
empty_burst = record { says = refl; idles = refl; leads = refl }

empty_escape : Plain AfterEscape [] [] Keep AfterEscape
unfolding split_from
empty_escape = record { says = refl; idles = refl; leads = refl }

cons_not : (b : ℕ) (bs : List ℕ) → b ∷ bs ≡ [] → ⊥
cons_not b bs e = cc

joined_none : (a c : List ℕ) → a ++ c ≡ [] → a ≡ []
joined_none [] c e = refl
joined_none (b ∷ a) c e = absurd (cc)

nothing_more : (bursts : List (List ℕ)) → bytes_of_bursts bursts ≡ [] → burst_events at_first bursts ≡ []
nothing_more [] e = refl
nothing_more (x ∷ bursts) e =
    subst (λ (x : List ℕ). burst_events at_first (x ∷ bursts) ≡ []) (sym (joined_none x (bytes_of_bursts bursts) e))
    (all_events at_first [] bursts [] None at_first empty_burst.says empty_burst.idles empty_burst.leads
    ∙ nothing_more bursts (none_joined x (bytes_of_bursts bursts) e))

-- ---- all bursts of a sequence

is_none : (w : List ℕ) → (w ≡ []) ⊎ (w ≡ [] → ⊥)
is_none [] = inl refl
is_none (b ∷ bs) = inr (λ e. cc)

tail_is : (a b : ℕ) (x y : List ℕ) → a ∷ x ≡ b ∷ y → x ≡ y
tail_is a b x y e = cc

head_is : (a b : ℕ) (x y : List ℕ) → a ∷ x ≡ b ∷ y → a ≡ b
head_is a b x y e = cc

sequence_no_string : (c : ℕ) → begins_sequence c ≡ true → begins_control_string c ≡ false
unfolding begins_control_string
sequence_no_string c e = at (c == 91) refl (c == 79) refl e
  where
    at : (s : Bool) → (c == 91) ≡ s → (t : Bool) → (c == 79) ≡ t → (s || t) ≡ true → begins_control_string c ≡ false
    at true f t g h = ap begins_control_string (eqb-true c 91 f)
    at false f true g h = ap begins_control_string (eqb-true c 79 g)
    at false f false g h = absurd (cc)

ends_escape : Keep ≡ EndEscape → ⊥
ends_escape e = cc

-- a front that is kept is no lone escape
lone_front : (w x : List ℕ) → (w ≡ [] → ⊥) → effect_on w ≡ Keep → w ++ x ≡ 27 ∷ [] → ⊥
lone_front [] x n k e = n refl
lone_front (p ∷ w) x n k e =
    let none : w ≡ [] = joined_none w x (tail_is p 27 (w ++ x) [] e) in
    let is : p ∷ w ≡ 27 ∷ [] = ap₂ (λ (n : ℕ) (l : List ℕ). n ∷ l) (head_is p 27 (w ++ x) [] e) none in
    ends_escape (sym k ∙ ap effect_on is)

module _ (c : ℕ) (v : List ℕ) (event : TerminalEvent) (opens : begins_sequence c ≡ true) (token : IsToken (27 ∷ c ∷ v) event) where
  -- the front of it is a lone escape, or is kept
  fronts : (y more : List ℕ) → y ++ more ≡ 27 ∷ c ∷ v → (y ≡ 27 ∷ []) ⊎ (effect_on y ≡ Keep)
  fronts [] more e = inr refl
  fronts (p ∷ []) more e = inl (ap (λ n. n ∷ []) (head_is p 27 more (c ∷ v) e))
  fronts (p ∷ q ∷ []) more e =
      let is : q ≡ c = head_is q c more v (tail_is p 27 (q ∷ more) (c ∷ v) e) in
      let not : begins_control_string q ≡ false = ap begins_control_string is ∙ sequence_no_string c opens in
      inr (at (p == 27) (begins_control_string q) not)
    where
      at : (s t : Bool) → t ≡ false → (if s && t then Drop else Keep) ≡ Keep
      at true true f = absurd (cc)
      at true false f = refl
      at false t f = refl
  fronts (p ∷ q ∷ r ∷ y) more e = inr refl

  -- what comes after a front that is not empty: once the token
  comes_rest : (bursts : List (List ℕ)) (w : List ℕ) → (w ≡ [] → ⊥) → effect_on w ≡ Keep → w ++ bytes_of_bursts bursts ≡ 27 ∷ c ∷ v → (bytes_of_bursts bursts ≡ [] → ⊥)
      → burst_events (Waiting false w) bursts ≡ event ∷ []
  comes_rest [] w n k e h = absurd (h refl)
  comes_rest (x ∷ bursts) w n k e h = at (is_none (bytes_of_bursts bursts)) (λ y. comes_rest bursts y)
    where
      joins : (w ++ x) ++ bytes_of_bursts bursts ≡ 27 ∷ c ∷ v
      joins = append_assoc w x (bytes_of_bursts bursts) ∙ e

      lone : w ++ x ≡ 27 ∷ [] → burst_events (Waiting false w) (x ∷ bursts) ≡ event ∷ []
      lone f = absurd (lone_front w x n k f)

      at : (bytes_of_bursts bursts ≡ []) ⊎ (bytes_of_bursts bursts ≡ [] → ⊥)
          → ((y : List ℕ) → (y ≡ [] → ⊥) → effect_on y ≡ Keep → y ++ bytes_of_bursts bursts ≡ 27 ∷ c ∷ v → (bytes_of_bursts bursts ≡ [] → ⊥)
          → burst_events (Waiting false y) bursts ≡ event ∷ [])
          → burst_events (Waiting false w) (x ∷ bursts) ≡ event ∷ []
      at (inl none) more =
          let whole : w ++ x ≡ 27 ∷ c ∷ v = sym (append-nil (w ++ x)) ∙ ap (λ (l : List ℕ). (w ++ x) ++ l) (sym none) ∙ joins in
          let p = last_burst (Waiting false w) x (w ++ x) event (burst_waiting w x) (subst (λ (y : List ℕ). IsToken y event) (sym whole) token) in
          all_events (Waiting false w) x bursts (event ∷ []) None at_first p.says p.idles p.leads ∙ ap (λ (l : List TerminalEvent). event ∷ l) (nothing_more bursts none)
      at (inr some) more =
          let bare-is = front (w ++ x) (bytes_of_bursts bursts) event some (subst (λ (y : List ℕ). IsToken y event) (sym joins) token) in
          ⊎_elim lone
          (λ (keeps : effect_on (w ++ x) ≡ Keep).
          let p = quiet_burst (Waiting false w) x (w ++ x) (burst_waiting w x) bare-is Keep keeps in
          all_events (Waiting false w) x bursts [] None (Waiting false (w ++ x)) p.says p.idles p.leads
          ∙ more (w ++ x) (λ f. n (joined_none w x f)) keeps joins some)
          (fronts (w ++ x) (bytes_of_bursts bursts) joins)

  -- after the escape has ended: once the token
  comes_escape : (bursts : List (List ℕ)) → bytes_of_bursts bursts ≡ c ∷ v → burst_events AfterEscape bursts ≡ event ∷ []
  comes_escape [] e = absurd (cc)
  comes_escape ([] ∷ bursts) e =
      all_events AfterEscape [] bursts [] None AfterEscape empty_escape.says empty_escape.idles empty_escape.leads ∙ comes_escape bursts e
  comes_escape ((d ∷ x) ∷ bursts) e = at (is_none (bytes_of_bursts bursts))
    where
      starts : begins_sequence d ≡ true
      starts = ap begins_sequence (head_is d c (x ++ bytes_of_bursts bursts) v e) ∙ opens

      joins : (27 ∷ d ∷ x) ++ bytes_of_bursts bursts ≡ 27 ∷ c ∷ v
      joins = ap (λ (l : List ℕ). 27 ∷ l) e

      at : (bytes_of_bursts bursts ≡ []) ⊎ (bytes_of_bursts bursts ≡ [] → ⊥) → burst_events AfterEscape ((d ∷ x) ∷ bursts) ≡ event ∷ []
      at (inl none) =
          let whole : 27 ∷ d ∷ x ≡ 27 ∷ c ∷ v = sym (append-nil (27 ∷ d ∷ x)) ∙ ap (λ (l : List ℕ). (27 ∷ d ∷ x) ++ l) (sym none) ∙ joins in
          let p = last_burst AfterEscape (d ∷ x) (27 ∷ d ∷ x) event (burst_escape d x starts) (subst (λ (y : List ℕ). IsToken y event) (sym whole) token) in
          all_events AfterEscape (d ∷ x) bursts (event ∷ []) None at_first p.says p.idles p.leads ∙ ap (λ (l : List TerminalEvent). event ∷ l) (nothing_more bursts none)
      at (inr some) =
          let bare-is = front (27 ∷ d ∷ x) (bytes_of_bursts bursts) event some (subst (λ (y : List ℕ). IsToken y event) (sym joins) token) in
          ⊎_elim (λ (f : 27 ∷ d ∷ x ≡ 27 ∷ []). absurd (cons_not d x (tail_is 27 27 (d ∷ x) [] f)))
          (λ (keeps : effect_on (27 ∷ d ∷ x) ≡ Keep).
          let p = quiet_burst AfterEscape (d ∷ x) (27 ∷ d ∷ x) (burst_escape d x starts) bare-is Keep keeps in
          all_events AfterEscape (d ∷ x) bursts [] None (Waiting false (27 ∷ d ∷ x)) p.says p.idles p.leads
          ∙ comes_rest bursts (27 ∷ d ∷ x) (λ f. cons_not 27 (d ∷ x) f) keeps joins some)
          (fronts (27 ∷ d ∷ x) (bytes_of_bursts bursts) joins)

  -- from the beginning: once the token, perhaps behind the Esc key
  comes_first : (bursts : List (List ℕ)) → bytes_of_bursts bursts ≡ 27 ∷ c ∷ v → ComesOnce event (burst_events at_first bursts)
  comes_first [] e = absurd (cc)
  comes_first ([] ∷ bursts) e =
      subst (λ (l : List TerminalEvent). ComesOnce event l)
      (sym (all_events at_first [] bursts [] None at_first empty_burst.says empty_burst.idles empty_burst.leads)) (comes_first bursts e)
  comes_first ((p ∷ x) ∷ bursts) e = at (is_none (bytes_of_bursts bursts))
    where
      at : (bytes_of_bursts bursts ≡ []) ⊎ (bytes_of_bursts bursts ≡ [] → ⊥) → ComesOnce event (burst_events at_first ((p ∷ x) ∷ bursts))
      at (inl none) =
          let whole : p ∷ x ≡ 27 ∷ c ∷ v = sym (append-nil (p ∷ x)) ∙ ap (λ (l : List ℕ). (p ∷ x) ++ l) (sym none) ∙ e in
          let q = last_burst at_first (p ∷ x) (p ∷ x) event (burst_waiting [] (p ∷ x)) (subst (λ (y : List ℕ). IsToken y event) (sym whole) token) in
          inl (all_events at_first (p ∷ x) bursts (event ∷ []) None at_first q.says q.idles q.leads ∙ ap (λ (l : List TerminalEvent). event ∷ l) (nothing_more bursts none))
      at (inr some) =
          let bare-is = front (p ∷ x) (bytes_of_bursts bursts) event some (subst (λ (y : List ℕ). IsToken y event) (sym e) token) in
          ⊎_elim
          (λ (f : p ∷ x ≡ 27 ∷ []).
          let q = quiet_burst at_first (p ∷ x) (p ∷ x) (burst_waiting [] (p ∷ x)) bare-is EndEscape (ap effect_on f) in
          let next : bytes_of_bursts bursts ≡ c ∷ v = ap (λ (l : List ℕ). l ++ bytes_of_bursts bursts) (sym (tail_is p 27 x [] f)) ∙ tail_is p 27 (x ++ bytes_of_bursts bursts) (c ∷ v) e in
          inr (all_events at_first (p ∷ x) bursts [] (Some escape_event) AfterEscape q.says q.idles q.leads ∙ ap (λ (l : List TerminalEvent). escape_event ∷ l) (comes_escape bursts next)))
          (λ (keeps : effect_on (p ∷ x) ≡ Keep).
          let q = quiet_burst at_first (p ∷ x) (p ∷ x) (burst_waiting [] (p ∷ x)) bare-is Keep keeps in
          inl (all_events at_first (p ∷ x) bursts [] None (Waiting false (p ∷ x)) q.says q.idles q.leads
          ∙ comes_rest bursts (p ∷ x) (λ f. cons_not p x f) keeps e some))
          (fronts (p ∷ x) (bytes_of_bursts bursts) e)

pub comes_once : (bytes : List ℕ) (event : TerminalEvent) → is_sequence bytes ≡ true → IsToken bytes event → SurvivesTearing bytes event
comes_once [] event e t = absurd (cc)
comes_once (b ∷ []) event e t = absurd (cc)
comes_once (b ∷ c ∷ v) event e t = at (b == 27) refl e
  where
    at : (s : Bool) → (b == 27) ≡ s → (if s then begins_sequence c else false) ≡ true → SurvivesTearing (b ∷ c ∷ v) event
    at true f g =
        let is : b ∷ c ∷ v ≡ 27 ∷ c ∷ v = ap (λ n. n ∷ c ∷ v) (eqb-true b 27 f) in
        λ bursts h. comes_first c v event g (subst (λ (y : List ℕ). IsToken y event) is t) bursts (h ∙ is)
    at false f g = absurd (cc)

-- ---- the keys of the table

abbrev IsKeyToken : KeyRow → List ℕ → Type 0
IsKeyToken row bytes = is_sequence bytes ≡ true → IsToken bytes (press row.modifiers row.code)

not_sequence : {T : Type 0} → false ≡ true → T
not_sequence e = absurd (cc)

key_tokens : AllZip IsKeyToken key_table key_bytes
unfolding is_parameter is_final is_continuation begins_control_string byte_key mouse_event new_sequence with_parameter token_of trailing_bytes lead_character with_continuation first split_from
key_tokens = (not_sequence, (not_sequence, (not_sequence, (not_sequence, (not_sequence, ((λ e. refl), (not_sequence, ((λ e. refl), (not_sequence, ((λ e. refl), (not_sequence, ((λ e. refl), (not_sequence, ((λ e. refl), (not_sequence, ((λ e. refl), (not_sequence, ((λ e. refl), ((λ e. refl), ((λ e. refl), (not_sequence, ((λ e. refl), (not_sequence, ((λ e. refl), ((λ e. refl), (not_sequence, (not_sequence, (not_sequence, (not_sequence, (not_sequence, (not_sequence, (not_sequence, (not_sequence, (not_sequence, (not_sequence, (not_sequence, tt))))))))))))))))))))))))))))))))))))

rows_torn : (rows : List KeyRow) (bytes : List (List ℕ)) → AllZip IsKeyToken rows bytes → AllZip IsTorn rows bytes
rows_torn [] [] h = tt
rows_torn [] (b ∷ bs) h = h
rows_torn (r ∷ rows) [] h = h
rows_torn (r ∷ rows) (b ∷ bs) h = ((λ e. comes_once b (press r.modifiers r.code) e (h.0 e)), rows_torn rows bs h.1)

pub torn_keys : AreTorn
torn_keys = rows_torn key_table key_bytes key_tokens

-- ---- ctrl-c within a paste

interrupt_state : (s : State) → hears (tokenizer true s) 3 ≡ tokenizer true state.Ground
unfolding step transition_of is_parameter is_final is_continuation begins_control_string
interrupt_state state.Ground = refl
interrupt_state state.Escape = refl
interrupt_state state.EndedEscape = refl
interrupt_state (state.Sequence q) = refl
interrupt_state (state.Trailing left) = refl
interrupt_state (state.Character c) = refl
interrupt_state state.StringBegun = refl
interrupt_state state.ControlString = refl

interrupt_quiet : (s : State) → AreOther (events_of (step (tokenizer true s) 3).events)
unfolding step transition_of is_parameter is_final is_continuation begins_control_string
interrupt_quiet state.Ground = (refl, tt)
interrupt_quiet state.Escape = (refl, tt)
interrupt_quiet state.EndedEscape = (refl, tt)
interrupt_quiet (state.Sequence q) = (refl, (refl, tt))
interrupt_quiet (state.Trailing left) = (refl, (refl, tt))
interrupt_quiet (state.Character c) = (refl, (refl, tt))
interrupt_quiet state.StringBegun = (refl, (refl, tt))
interrupt_quiet state.ControlString = (refl, (refl, tt))

freed_at : (p : Bool) (x : List ℕ) → IsFreed (Waiting true (rest x))
freed_at p x =
    let d = after p x in
    let reads : Follows (tokenizer true d.state) true (rest x) = sym (rest_again d p x (after_heard p x) true) in
    let stays : is_pasted_after true (rest x ++ (3 ∷ [])) ≡ true =
    pasted_is (hears (tokenizer true d.state) 3) true (rest x ++ (3 ∷ [])) (follows_next (tokenizer true d.state) true (rest x) reads 3)
    ∙ ap (λ (t : Tokenizer). t.is_pasted) (interrupt_state d.state) in
    let says : stream_events true (rest x ++ (3 ∷ [])) ≡ events_of (step (tokenizer true d.state) 3).events =
    follows_event (tokenizer true d.state) true (rest x) reads 3
    ∙ ap (λ (s : Split). token_events true s.tokens ++ events_of (step (tokenizer true d.state) 3).events) (rest_alone d p x (after_heard p x)) in
    record {
      quiet = subst AreOther (sym says) (interrupt_quiet d.state);
      event = rw stays refl;
      after = rw stays refl;
    }

pub freed : (start : Start) (bytes : List ℕ) → is_pasted_from start bytes ≡ true → is_interrupt bytes ≡ false → IsFreed (after_silence start bytes)
freed start bytes e f =
    let is : after_silence start bytes ≡ Waiting true (rest_from start bytes) = rw (e, f) refl in
    subst IsFreed (sym is) (freed_at (is_pasted_at start) (read_as start bytes))

-- ---- a second silence

silent_nothing : IsSilent at_first
unfolding split_from
silent_nothing = record { event = refl; after = refl }

silent_escape : IsSilent AfterEscape
unfolding split_from
silent_escape = record { event = refl; after = refl }

-- a token that waits is read as itself again
alone_again : (p : Bool) (x : List ℕ) → split (rest x ++ []) ≡ record { tokens = []; rest = rest x }
alone_again p x = ap split (append-nil (rest x)) ∙ rest_alone (after p x) p x (after_heard p x)

silent_pasted : (x : List ℕ) → IsSilent (Waiting true (rest x))
silent_pasted x =
    let alone = alone_again true x in
    let stays : is_pasted_after true (rest x ++ []) ≡ true = ap (λ (s : Split). fold pasted_after true s.tokens) alone in
    record {
      event = rw stays refl;
      after = rw stays (ap (λ (s : Split). Waiting true s.rest) alone);
    }

silent_kept : (x : List ℕ) → effect_on (rest x) ≡ Keep → IsSilent (Waiting false (rest x))
silent_kept x e =
    let alone = alone_again true x in
    let plain : is_pasted_after false (rest x ++ []) ≡ false = ap (λ (s : Split). fold pasted_after false s.tokens) alone in
    let keeps : effect_on (rest (rest x ++ [])) ≡ Keep = ap (λ (s : Split). effect_on s.rest) alone ∙ e in
    record {
      event = rw (plain, keeps) refl;
      after = rw (plain, keeps) (ap (λ (s : Split). Waiting false s.rest) alone);
    }

silent_at_kept : (start : Start) (bytes : List ℕ) → effect_on (rest_from start bytes) ≡ Keep → IsSilent (kept start bytes)
silent_at_kept (Waiting p w) bytes e = silent_kept (w ++ bytes) e
silent_at_kept AfterEscape [] e = silent_escape
silent_at_kept AfterEscape (b ∷ bs) e = silent_kept (read_as AfterEscape (b ∷ bs)) e

silent_after : (start : Start) (bytes : List ℕ) (f : SilenceEffect) → effect_on (rest_from start bytes) ≡ f → IsSilent (after_effect f start bytes)
silent_after start bytes Keep e = silent_at_kept start bytes e
silent_after start bytes EndEscape e = silent_escape
silent_after start bytes Drop e = silent_nothing

pub silent : (start : Start) (bytes : List ℕ) → IsSilent (after_silence start bytes)
silent start bytes = at (is_pasted_from start bytes) (is_interrupt bytes)
  where
    at : (p i : Bool) → IsSilent (if p then (if i then at_first else Waiting true (rest_from start bytes)) else after_effect (effect_on (rest_from start bytes)) start bytes)
    at true true = silent_nothing
    at true false = silent_pasted (read_as start bytes)
    at false i = silent_after start bytes (effect_on (rest_from start bytes)) refl

-- ---- a paste with silences

mark_front : (a c : List ℕ) → HasMark a → HasMark (a ++ c)
mark_front a c m =
    (m.0, (m.1.0 ++ c, ap (λ (l : List ℕ). l ++ c) m.1.1 ∙ append_assoc m.0 (paste_end ++ m.1.0) c ∙ ap (λ (l : List ℕ). m.0 ++ l) (append_assoc paste_end m.1.0 c)))

mark_back : (a c : List ℕ) → HasMark c → HasMark (a ++ c)
mark_back a c m = (a ++ m.0, (m.1.0, ap (λ (l : List ℕ). a ++ l) m.1.1 ∙ sym (append_assoc a m.0 (paste_end ++ m.1.0))))

-- the unfinished token is the end of the bytes
suffix : (k : ℕ) (bs : List ℕ) → (front : List ℕ) × (bs ≡ front ++ (split_from k bs).rest)
unfolding split_from
suffix k [] = ([], refl)
suffix (suc k) (b ∷ bs) = let s = suffix k bs in (b ∷ s.0, ap (λ (l : List ℕ). b ∷ l) s.1)
suffix zero (b ∷ bs) = at (first (b ∷ bs)) (λ n. suffix n bs)
  where
    at : (f : Found) → ((n : ℕ) → (front : List ℕ) × (bs ≡ front ++ (split_from n bs).rest))
        → (front : List ℕ) × (b ∷ bs ≡ front ++ (let s : Split = elim f [
          | Unfinished ↦ record { tokens = []; rest = b ∷ bs }
          | Finished token n ↦ with_token token (split_from n bs)
        ] in s.rest))
    at Unfinished more = ([], refl)
    at (Finished token n) more = let s = more n in (b ∷ s.0, ap (λ (l : List ℕ). b ∷ l) s.1)

other-append : (xs ys : List TerminalEvent) → AreOther xs → AreOther ys → AreOther (xs ++ ys)
other-append [] ys p q = q
other-append (x ∷ xs) ys p q = (p.0, other-append xs ys p.1 q)

torn_from : (bursts : List (List ℕ)) (w : List ℕ) → HaveNoInterrupt bursts → (HasMark (w ++ bytes_of_bursts bursts) → ⊥)
    → AreOther (burst_events (Waiting true w) bursts) × (is_pasted_at (after_bursts (Waiting true w) bursts) ≡ true)
torn_from [] w n h = (tt, refl)
torn_from (x ∷ bursts) w n h =
    let more = bytes_of_bursts bursts in
    let joins : w ++ (x ++ more) ≡ (w ++ x) ++ more = sym (append_assoc w x more) in
    let stay = stay_pasted (w ++ x) (λ m. h (subst HasMark (sym joins) (mark_front (w ++ x) more m))) in
    let not = n.0 in
    let pasted = stay.goes_on in
    let end = suffix 0 (w ++ x) in
    let again : end.0 ++ (rest (w ++ x) ++ more) ≡ w ++ (x ++ more) = sym (append_assoc end.0 (rest (w ++ x)) more) ∙ ap (λ (l : List ℕ). l ++ more) (sym end.1) ∙ sym joins in
    let next = torn_from bursts (rest (w ++ x)) n.1 (λ m. h (subst HasMark again (mark_back end.0 (rest (w ++ x) ++ more) m))) in
    let none : idle_event (Waiting true w) x ≡ None = rw (pasted, not) refl in
    let stands : after_silence (Waiting true w) x ≡ Waiting true (rest (w ++ x)) = rw (pasted, not) refl in (
      subst AreOther (sym (all_events (Waiting true w) x bursts (stream_events true (w ++ x)) None (Waiting true (rest (w ++ x))) refl none stands))
          (other-append (stream_events true (w ++ x)) (burst_events (Waiting true (rest (w ++ x))) bursts) stay.quiet next.0),
      ap (λ (s : Start). is_pasted_at (after_bursts s bursts)) stands ∙ next.1,
    )

pub stay_pasted_torn : (bursts : List (List ℕ)) → HaveNoInterrupt bursts → (HasMark (bytes_of_bursts bursts) → ⊥) → StayPastedTorn bursts
stay_pasted_torn bursts n h = let t = torn_from bursts [] n h in record { quiet = t.0; goes_on = t.1 }
