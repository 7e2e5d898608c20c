-- A stream, split byte by byte: what a byte more makes of what waits is what the definition makes of the longer stream.
use Rattle.std.proofs.Common.{◌≡◌, refl, sym, ◌∙◌, ap, subst, ℕ, ◌+◌, Bool, true, false, ◌==◌, ◌&&◌, nat_lt, nat_le, List, [], ◌∷◌, ◌++◌, length, Option, Some, None, append_assoc, fold, if◌then◌else◌}
use Rattle.std.proofs.lemmas.Bool.{eqb-true}
use Rattle.std.proofs.lemmas.List.{append-nil, length-append}
use Rattle.std.proofs.lemmas.List.Sums.{fold-append}
use Rattle.scm_terminal.specs.declared.characters.Character.{Character}
use Rattle.scm_terminal.specs.declared.characters.CharacterProgress.{CharacterProgress}
use Rattle.scm_terminal.specs.declared.characters.CharacterProgress.TheVariants.{Whole, Part}
use Rattle.scm_terminal.specs.declared.sequences.Sequence.{Sequence}
use Rattle.scm_terminal.specs.declared.tokens.Token.{Token}
use Rattle.scm_terminal.specs.declared.transitions.State.{State}
use Rattle.scm_terminal.specs.declared.transitions.State.TheVariants as state
use Rattle.scm_terminal.specs.declared.transitions.Transition.{Transition}
use Rattle.scm_terminal.specs.declared.transitions.Transition.TheVariants.{Continue, Emit, EmitAndRetry}
use Rattle.scm_terminal.specs.Bytes.{begins_control_string, is_continuation, is_final, is_parameter}
use Rattle.scm_terminal.specs.Sequences.{trailing_bytes}
use Rattle.scm_terminal.specs.Characters.{lead_character, with_continuation}
use Rattle.scm_terminal.specs.Streams.{Found, Unfinished, Finished, character, after_lead, after_start, trailing, sequence, control_string, after_escape, first, Split, with_token, split_from, split}
use Rattle.scm_terminal.specs.Transitions.{lead_transition, start_transition, ground_transition, escape_transition, sequence_transition, trailing_transition, progress_transition, character_transition, control_string_transition, transition_of, effect_of_silence}
use Rattle.scm_terminal.specs.Silences.{effect_on}
use Rattle.scm_terminal.specs.Decoders.{step_by, step, hears, tokenizer}
use Rattle.scm_terminal.specs.declared.tokenizer.Tokenizer.{Tokenizer}
use Rattle.scm_terminal.specs.declared.transitions.SilenceEffect.{SilenceEffect}
use Rattle.scm_terminal.specs.declared.transitions.SilenceEffect.TheVariants.{Keep, EndEscape, Drop}

-- ---- how the first goes on behind what waits

abbrev pub goes_on : State → ℕ → List ℕ → Found
goes_on state.Ground n bs = first bs
goes_on state.Escape n bs = after_escape n bs
goes_on state.EndedEscape n bs = first bs
goes_on (state.Sequence q) n bs = sequence q n bs
goes_on (state.Trailing left) n bs = trailing left n bs
goes_on (state.Character c) n bs = character c n bs
goes_on state.StringBegun n bs = control_string n bs
goes_on state.ControlString n bs = control_string n bs

-- after a move: with this byte there are k bytes behind the first one, without it j
abbrev pub by_move : Transition → ℕ → ℕ → List ℕ → Found
by_move (Continue s) k j bs = goes_on s k bs
by_move (Emit token) k j bs = Finished token k
by_move (EmitAndRetry token) k j bs = Finished token j

by_if : (t : Bool) (x y : Transition) (f g : Found) (k j : ℕ) (bs : List ℕ) → f ≡ by_move x k j bs → g ≡ by_move y k j bs → (if t then f else g) ≡ by_move (if t then x else y) k j bs
by_if true x y f g k j bs p q = p
by_if false x y f g k j bs p q = q

lead_goes : (o : Option Character) (k j : ℕ) (bs : List ℕ) → after_lead o k bs ≡ by_move (lead_transition o) k j bs
lead_goes None k j bs = refl
lead_goes (Some c) k j bs = refl

start_goes : (alt : Bool) (b k j : ℕ) (bs : List ℕ) → after_start alt k b bs ≡ by_move (start_transition alt b) k j bs
start_goes alt b k j bs = by_if (nat_lt b 128) _ _ _ _ k j bs refl (lead_goes (lead_character alt b) k j bs)

pub ground_goes : (b : ℕ) (bs : List ℕ) → first (b ∷ bs) ≡ by_move (ground_transition b) 0 0 bs
unfolding first
ground_goes b bs = by_if (b == 27) _ _ _ _ 0 0 bs refl (start_goes false b 0 0 bs)

escape_goes : (n b : ℕ) (bs : List ℕ) → after_escape n (b ∷ bs) ≡ by_move (escape_transition b) (n + 1) n bs
escape_goes n b bs =
    by_if (b == 27) _ _ _ _ (n + 1) n bs refl
    (by_if (b == 91) _ _ _ _ (n + 1) n bs refl
    (by_if (b == 79) _ _ _ _ (n + 1) n bs refl
    (by_if (b == 92) _ _ _ _ (n + 1) n bs refl
    (by_if (begins_control_string b) _ _ _ _ (n + 1) n bs refl
    (start_goes true b (n + 1) n bs)))))

sequence_goes : (q : Sequence) (n b : ℕ) (bs : List ℕ) → sequence q n (b ∷ bs) ≡ by_move (sequence_transition q b) (n + 1) n bs
sequence_goes q n b bs =
    by_if (is_parameter b) _ _ _ _ (n + 1) n bs refl
    (by_if (is_final b) _ _ _ _ (n + 1) n bs
    (by_if (trailing_bytes q b == 0) _ _ _ _ (n + 1) n bs refl refl)
    refl)

trailing_goes : (left n b : ℕ) (bs : List ℕ) → trailing left n (b ∷ bs) ≡ by_move (trailing_transition left b) (n + 1) n bs
trailing_goes left n b bs =
    by_if (nat_lt b 32) _ _ _ _ (n + 1) n bs refl (by_if (nat_le left 1) _ _ _ _ (n + 1) n bs refl refl)

joined_goes : (joined : CharacterProgress) (n : ℕ) (bs : List ℕ) → (elim joined [ Whole token ↦ Finished token (n + 1) | Part d ↦ character d (n + 1) bs ]) ≡ by_move (progress_transition joined) (n + 1) n bs
joined_goes (Whole token) n bs = refl
joined_goes (Part d) n bs = refl

character_goes : (c : Character) (n b : ℕ) (bs : List ℕ) → character c n (b ∷ bs) ≡ by_move (character_transition c b) (n + 1) n bs
character_goes c n b bs =
    by_if (is_continuation b) _ _ _ _ (n + 1) n bs (joined_goes (with_continuation c b) n bs) refl

control_string_goes : (n b : ℕ) (bs : List ℕ) → control_string n (b ∷ bs) ≡ by_move (control_string_transition b) (n + 1) n bs
control_string_goes n b bs =
    by_if (b == 7) _ _ _ _ (n + 1) n bs refl (by_if (nat_lt b 32) _ _ _ _ (n + 1) n bs refl refl)

-- within a token
abbrev pub IsOpen : State → Type 0
IsOpen state.Ground = ⊥
IsOpen state.Escape = Unit {0}
IsOpen state.EndedEscape = ⊥
IsOpen (state.Sequence q) = Unit {0}
IsOpen (state.Trailing left) = Unit {0}
IsOpen (state.Character c) = Unit {0}
IsOpen state.StringBegun = Unit {0}
IsOpen state.ControlString = Unit {0}

pub moves : (s : State) → IsOpen s → (n b : ℕ) (bs : List ℕ) → goes_on s n (b ∷ bs) ≡ by_move (transition_of s b) (n + 1) n bs
unfolding transition_of
moves state.Ground o n b bs = absurd o
moves state.Escape o n b bs = escape_goes n b bs
moves state.EndedEscape o n b bs = absurd o
moves (state.Sequence q) o n b bs = sequence_goes q n b bs
moves (state.Trailing left) o n b bs = trailing_goes left n b bs
moves (state.Character c) o n b bs = character_goes c n b bs
moves state.StringBegun o n b bs = control_string_goes n b bs
moves state.ControlString o n b bs = control_string_goes n b bs

-- ---- where a move leads

-- to a state within a token, on which a silence has the effect that it has on the bytes
abbrev pub Leads : SilenceEffect → Transition → Type 0
Leads effect (Continue s) = IsOpen s × (effect ≡ effect_of_silence s)
Leads effect (Emit token) = Unit {0}
Leads effect (EmitAndRetry token) = Unit {0}

leads_if : (effect : SilenceEffect) (t : Bool) (x y : Transition) → (t ≡ true → Leads effect x) → (t ≡ false → Leads effect y) → Leads effect (if t then x else y)
leads_if effect true x y p q = p refl
leads_if effect false x y p q = q refl

lead_leads : (effect : SilenceEffect) → effect ≡ Keep → (o : Option Character) → Leads effect (lead_transition o)
lead_leads effect e None = tt
lead_leads effect e (Some c) = (tt, e)

start_leads : (effect : SilenceEffect) → effect ≡ Keep → (alt : Bool) (b : ℕ) → Leads effect (start_transition alt b)
start_leads effect e alt b = leads_if effect (nat_lt b 128) _ _ (λ t. tt) (λ t. lead_leads effect e (lead_character alt b))

joined_leads : (effect : SilenceEffect) → effect ≡ Keep → (joined : CharacterProgress) → Leads effect (progress_transition joined)
joined_leads effect e (Whole token) = tt
joined_leads effect e (Part d) = (tt, e)

string_leads : (effect : SilenceEffect) → effect ≡ Keep → (b : ℕ) → Leads effect (control_string_transition b)
string_leads effect e b = leads_if effect (b == 7) _ _ (λ t. tt) (λ t. leads_if effect (nat_lt b 32) _ _ (λ t. tt) (λ t. (tt, e)))

-- of two bytes, the first of which is an escape
string_drops : (b : ℕ) (t : Bool) → begins_control_string b ≡ t → effect_on (27 ∷ b ∷ []) ≡ (if t then Drop else Keep)
string_drops b t e = ap (λ (t : Bool). if t then Drop else Keep) e

escape_leads : (b : ℕ) → Leads (effect_on (27 ∷ b ∷ [])) (escape_transition b)
unfolding begins_control_string
escape_leads b =
    leads_if _ (b == 27) _ _ (λ t. tt)
    (λ t. leads_if _ (b == 91) _ _ (λ t. (tt, ap (λ (n : ℕ). effect_on (27 ∷ n ∷ [])) (eqb-true b 91 t)))
    (λ t. leads_if _ (b == 79) _ _ (λ t. (tt, ap (λ (n : ℕ). effect_on (27 ∷ n ∷ [])) (eqb-true b 79 t)))
    (λ t. leads_if _ (b == 92) _ _ (λ t. tt)
    (λ t. leads_if _ (begins_control_string b) _ _ (λ t. (tt, string_drops b true t)) (λ t. start_leads _ (string_drops b false t) true b)))))

-- the effect on a token of more bytes than a lone escape
kept_more : (a : ℕ) (v : List ℕ) (b : ℕ) → effect_on (a ∷ v) ≡ Keep → effect_on (a ∷ (v ++ (b ∷ []))) ≡ Keep
kept_more a [] b e = at (a == 27) e
  where
    at : (t : Bool) → (if t then EndEscape else Keep) ≡ Keep → (if t && begins_control_string b then Drop else Keep) ≡ Keep
    at true f = absurd (let g : EndEscape ≡ Keep = f in cc)
    at false f = refl
kept_more a (c ∷ []) b e = refl
kept_more a (c ∷ d ∷ v) b e = refl

dropped_more : (a : ℕ) (v : List ℕ) (b : ℕ) → effect_on (a ∷ v) ≡ Drop → effect_on (a ∷ (v ++ (b ∷ []))) ≡ Keep
dropped_more a [] b e = at (a == 27) e
  where
    at : (t : Bool) → (if t then EndEscape else Keep) ≡ Drop → (if t && begins_control_string b then Drop else Keep) ≡ Keep
    at true f = absurd (let g : EndEscape ≡ Drop = f in cc)
    at false f = absurd (let g : Keep ≡ Drop = f in cc)
dropped_more a (c ∷ []) b e = refl
dropped_more a (c ∷ d ∷ v) b e = refl

-- a token on which a silence has the effect of Esc is a lone escape
pub lone_escape : (w : List ℕ) → effect_on w ≡ EndEscape → w ≡ 27 ∷ []
lone_escape [] e = absurd (let g : Keep ≡ EndEscape = e in cc)
lone_escape (a ∷ []) e = at (a == 27) refl e
  where
    at : (t : Bool) → (a == 27) ≡ t → (if t then EndEscape else Keep) ≡ EndEscape → a ∷ [] ≡ 27 ∷ []
    at true h f = ap (λ n. n ∷ []) (eqb-true a 27 h)
    at false h f = absurd (let g : Keep ≡ EndEscape = f in cc)
lone_escape (a ∷ c ∷ []) e = at (a == 27 && begins_control_string c) e
  where
    at : (t : Bool) → (if t then Drop else Keep) ≡ EndEscape → a ∷ c ∷ [] ≡ 27 ∷ []
    at true f = absurd (let g : Drop ≡ EndEscape = f in cc)
    at false f = absurd (let g : Keep ≡ EndEscape = f in cc)
lone_escape (a ∷ c ∷ d ∷ w) e = absurd (let g : Keep ≡ EndEscape = e in cc)

escape_more : (a : ℕ) (v : List ℕ) (b : ℕ) → effect_on (a ∷ v) ≡ EndEscape → effect_on (a ∷ (v ++ (b ∷ []))) ≡ effect_on (27 ∷ b ∷ [])
escape_more a v b e = ap (λ (w : List ℕ). effect_on (w ++ (b ∷ []))) (lone_escape (a ∷ v) e)

pub later : (s : State) → IsOpen s → (a : ℕ) (v : List ℕ) → effect_on (a ∷ v) ≡ effect_of_silence s → (b : ℕ) → Leads (effect_on (a ∷ (v ++ (b ∷ [])))) (transition_of s b)
unfolding transition_of
later state.Ground o a v e b = absurd o
later state.Escape o a v e b = subst (λ (f : SilenceEffect). Leads f (escape_transition b)) (sym (escape_more a v b e)) (escape_leads b)
later state.EndedEscape o a v e b = absurd o
later (state.Sequence q) o a v e b =
    leads_if _ (is_parameter b) _ _ (λ t. (tt, kept_more a v b e))
    (λ t. leads_if _ (is_final b) _ _ (λ t. leads_if _ (trailing_bytes q b == 0) _ _ (λ t. tt) (λ t. (tt, kept_more a v b e))) (λ t. tt))
later (state.Trailing left) o a v e b = leads_if _ (nat_lt b 32) _ _ (λ t. tt) (λ t. leads_if _ (nat_le left 1) _ _ (λ t. tt) (λ t. (tt, kept_more a v b e)))
later (state.Character c) o a v e b = leads_if _ (is_continuation b) _ _ (λ t. joined_leads _ (kept_more a v b e) (with_continuation c b)) (λ t. tt)
later state.StringBegun o a v e b = string_leads _ (dropped_more a v b e) b
later state.ControlString o a v e b = string_leads _ (kept_more a v b e) b

-- where nothing waits, no byte is read anew, and an escape alone is a key when a silence comes
abbrev pub Ends : ℕ → Transition → Type 0
Ends b (Continue s) = IsOpen s × (effect_on (b ∷ []) ≡ effect_of_silence s)
Ends b (Emit token) = Unit {0}
Ends b (EmitAndRetry token) = ⊥

ends_if : (b : ℕ) (t : Bool) (x y : Transition) → Ends b x → Ends b y → Ends b (if t then x else y)
ends_if b true x y p q = p
ends_if b false x y p q = q

lead_ends : (b : ℕ) → (b == 27) ≡ false → (o : Option Character) → Ends b (lead_transition o)
lead_ends b e None = tt
lead_ends b e (Some c) = (tt, ap (λ (t : Bool). if t then EndEscape else Keep) e)

ends_by : (b : ℕ) (t : Bool) → (b == 27) ≡ t → Ends b (if t then Continue state.Escape else start_transition false b)
ends_by b true e = (tt, ap (λ (t : Bool). if t then EndEscape else Keep) e)
ends_by b false e = ends_if b (nat_lt b 128) _ _ tt (lead_ends b e (lead_character false b))

pub ground_ends : (b : ℕ) → Ends b (ground_transition b)
ground_ends b = ends_by b (b == 27) refl

-- ---- the parts of a stream

abbrev pub before : List Token → Split → Split
before tokens split = record { tokens = tokens ++ split.tokens; rest = split.rest }

pub split_says : (a : ℕ) (bs : List ℕ) (token : Token) (n : ℕ) → first (a ∷ bs) ≡ Finished token n → split (a ∷ bs) ≡ with_token token (split_from n bs)
unfolding split_from
split_says a bs token n e =
    ap (λ (f : Found). elim f [ Unfinished ↦ record { tokens = []; rest = a ∷ bs } | Finished token n ↦ with_token token (split_from n bs) ]) e

pub split_more : (a : ℕ) (bs : List ℕ) → first (a ∷ bs) ≡ Unfinished → split (a ∷ bs) ≡ record { tokens = []; rest = a ∷ bs }
unfolding split_from
split_more a bs e =
    ap (λ (f : Found). elim f [ Unfinished ↦ record { tokens = []; rest = a ∷ bs } | Finished token n ↦ with_token token (split_from n bs) ]) e

pub split_nil : split [] ≡ record { tokens = []; rest = [] }
unfolding split_from
split_nil = refl

pub skip : (v bs : List ℕ) → split_from (length v) (v ++ bs) ≡ split bs
unfolding split_from
skip [] bs = refl
skip (b ∷ v) bs = skip v bs

pub with_one : (v : List ℕ) (b : ℕ) (bs : List ℕ) → (v ++ (b ∷ [])) ++ bs ≡ v ++ (b ∷ bs)
with_one v b bs = append_assoc v (b ∷ []) bs

pub length_with_one : (v : List ℕ) (b : ℕ) → length (v ++ (b ∷ [])) ≡ length v + 1
length_with_one v b = length-append v (b ∷ [])

pub skip_one : (v : List ℕ) (b : ℕ) (bs : List ℕ) → split_from (length v + 1) (v ++ (b ∷ bs)) ≡ split bs
skip_one v b bs =
    ap (λ n. split_from n (v ++ (b ∷ bs))) (sym (length_with_one v b))
    ∙ ap (split_from (length (v ++ (b ∷ [])))) (sym (with_one v b bs))
    ∙ skip (v ++ (b ∷ [])) bs

-- ---- what waits

-- a first byte and those behind it wait at a state
pub record Waits (s : State) (a : ℕ) (v : List ℕ) : Type 0 where
  pub is_open : IsOpen s
  pub goes : (bs : List ℕ) → first (a ∷ (v ++ bs)) ≡ goes_on s (length v) bs
  pub ends : effect_on (a ∷ v) ≡ effect_of_silence s
  -- read anew, they lead there
  pub again : (p : Bool) → fold hears (tokenizer p state.Ground) (a ∷ v) ≡ tokenizer p s

-- nothing, or they
abbrev pub Stands : State → List ℕ → Type 0
Stands s [] = s ≡ state.Ground
Stands s (a ∷ v) = Waits s a v

pub stands_ends : (s : State) (w : List ℕ) → Stands s w → effect_on w ≡ effect_of_silence s
stands_ends s [] h = ap effect_of_silence (sym h)
stands_ends s (a ∷ v) h = h.ends

pub stands_again : (s : State) (w : List ℕ) → Stands s w → (p : Bool) → fold hears (tokenizer p state.Ground) w ≡ tokenizer p s
stands_again s [] h p = ap (tokenizer p) (sym h)
stands_again s (a ∷ v) h p = h.again p

none_more : (s : State) → IsOpen s → (n : ℕ) → goes_on s n [] ≡ Unfinished
none_more state.Ground o n = absurd o
none_more state.Escape o n = refl
none_more state.EndedEscape o n = absurd o
none_more (state.Sequence q) o n = refl
none_more (state.Trailing left) o n = refl
none_more (state.Character c) o n = refl
none_more state.StringBegun o n = refl
none_more state.ControlString o n = refl

-- it is the rest of itself
pub waits_alone : (s : State) (w : List ℕ) → Stands s w → split w ≡ record { tokens = []; rest = w }
waits_alone s [] h = split_nil
waits_alone s (a ∷ v) h =
    split_more a v
    (ap (λ (l : List ℕ). first (a ∷ l)) (sym (append-nil v)) ∙ h.goes [] ∙ none_more s h.is_open (length v))

-- ---- a byte more, read anew

continues : (p : Bool) (s : State) (b : ℕ) (t : State) → transition_of s b ≡ Continue t → hears (tokenizer p s) b ≡ tokenizer p t
unfolding step
continues p s b t e = ap (λ (m : Transition). (step_by p b m).tokenizer) e

pub again_first : (b : ℕ) (t : State) → ground_transition b ≡ Continue t → (p : Bool) → fold hears (tokenizer p state.Ground) (b ∷ []) ≡ tokenizer p t
unfolding transition_of
again_first b t e p = continues p state.Ground b t e

pub again_later : (s : State) (a : ℕ) (v : List ℕ) → Waits s a v → (b : ℕ) (t : State) → transition_of s b ≡ Continue t → (p : Bool)
    → fold hears (tokenizer p state.Ground) (a ∷ (v ++ (b ∷ []))) ≡ tokenizer p t
again_later s a v w b t e p =
    fold-append hears (tokenizer p state.Ground) (a ∷ v) (b ∷ []) ∙ ap (λ (x : Tokenizer). hears x b) (w.again p) ∙ continues p s b t e

-- at the ground nothing waits
pub nothing_waits : (s : State) (w : List ℕ) → Stands s w → s ≡ state.Ground → w ≡ []
nothing_waits s [] h e = refl
nothing_waits s (a ∷ v) h e = absurd (subst IsOpen e h.is_open)
