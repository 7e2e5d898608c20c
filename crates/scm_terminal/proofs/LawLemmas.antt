-- What holds of every stream.
use Rattle.std.proofs.Common.{◌≡◌, refl, sym, ◌∙◌, ap, ℕ, Bool, false, List, [], ◌∷◌, ◌++◌, fold}
use Rattle.std.proofs.lemmas.List.Sums.{fold-append}
use Rattle.scm_terminal.specs.declared.tokenizer.Tokenizer.{Tokenizer}
use Rattle.scm_terminal.specs.declared.transitions.State.{State}
use Rattle.scm_terminal.specs.declared.transitions.State.TheVariants as state
use Rattle.scm_terminal.specs.Bytes.{is_parameter, is_final, is_continuation}
use Rattle.scm_terminal.specs.Sequences.{new_sequence, with_parameter, token_of, trailing_bytes}
use Rattle.scm_terminal.specs.Streams.{Split, split, token_events, pasted_after, is_pasted_after, rest, IsCut, paste_end}
use Rattle.scm_terminal.specs.Transitions.{transition_of, effect_of_silence}
use Rattle.scm_terminal.specs.Decoders.{tokenizer, step, hears}
use Rattle.scm_terminal.proofs.StreamLemmas.{before, lone_escape}
use Rattle.scm_terminal.proofs.HeardLemmas.{knows_start, knows_all, whole, token_events-append, pasted_is, rest_ends, rest_nothing, Follows}

-- ---- cuts

pub cut_split : (a b : List ℕ) → split (a ++ b) ≡ before (split a).tokens (split ((split a).rest ++ b))
cut_split a b =
    let start = tokenizer false state.Ground in
    let d = fold hears start a in
    let k = knows_all false [] start (knows_start false) a in
    k.splits b ∙ ap (λ (x : Split). before x.tokens (split (x.rest ++ b))) (sym (whole false a d k))

pub cuts : (p : Bool) (a b : List ℕ) → IsCut p a b
cuts p a b = record {
  events = ap (λ (x : Split). token_events p x.tokens) (cut_split a b) ∙ token_events-append p (split a).tokens (split (rest a ++ b)).tokens;
  pasted = ap (λ (x : Split). fold pasted_after p x.tokens) (cut_split a b) ∙ fold-append pasted_after p (split a).tokens (split (rest a ++ b)).tokens;
  waits = ap (λ (x : Split). x.rest) (cut_split a b);
}

-- ---- what a decoder has heard that heard all bytes

pub after : Bool → List ℕ → Tokenizer
after p bytes = fold hears (tokenizer p state.Ground) bytes

pub after_heard : (p : Bool) (bytes : List ℕ) → Follows (after p bytes) p bytes
unfolding after
after_heard p bytes = refl

after-append : (p : Bool) (bytes more : List ℕ) → after p (bytes ++ more) ≡ fold hears (after p bytes) more
unfolding after
after-append p bytes more = fold-append hears (tokenizer p state.Ground) bytes more

-- ---- an escape begins anew

escape_state : (p : Bool) (s : State) → (hears (tokenizer p s) 27).state ≡ state.Escape
unfolding step transition_of is_parameter is_final is_continuation
escape_state p state.Ground = refl
escape_state p state.Escape = refl
escape_state p state.EndedEscape = refl
escape_state p (state.Sequence q) = refl
escape_state p (state.Trailing left) = refl
escape_state p (state.Character c) = refl
escape_state p state.StringBegun = refl
escape_state p state.ControlString = refl

pub escape_anew : (bytes : List ℕ) → rest (bytes ++ (27 ∷ [])) ≡ 27 ∷ []
escape_anew bytes =
    let d = after false bytes in
    let state_is : (after false (bytes ++ (27 ∷ []))).state ≡ state.Escape = ap (λ (x : Tokenizer). x.state) (after-append false bytes (27 ∷ [])) ∙ escape_state d.is_pasted d.state in
    lone_escape (rest (bytes ++ (27 ∷ [])))
    (rest_ends (after false (bytes ++ (27 ∷ []))) false (bytes ++ (27 ∷ [])) (after_heard false (bytes ++ (27 ∷ []))) ∙ ap effect_of_silence state_is)

-- ---- a paste ends

ends_at : (p : Bool) → fold hears (tokenizer p state.Escape) (91 ∷ 50 ∷ 48 ∷ 49 ∷ 126 ∷ []) ≡ tokenizer false state.Ground
unfolding step transition_of is_parameter is_final new_sequence with_parameter token_of trailing_bytes
ends_at p = refl

escape_pasted : (p : Bool) (s : State) → hears (tokenizer p s) 27 ≡ tokenizer (hears (tokenizer p s) 27).is_pasted state.Escape
escape_pasted p s = ap (λ (t : State). tokenizer (hears (tokenizer p s) 27).is_pasted t) (escape_state p s)

pub end_state : (d : Tokenizer) → fold hears d paste_end ≡ tokenizer false state.Ground
end_state d =
    ap (λ (x : Tokenizer). fold hears x (91 ∷ 50 ∷ 48 ∷ 49 ∷ 126 ∷ [])) (escape_pasted d.is_pasted d.state) ∙ ends_at (hears d 27).is_pasted

pub paste_ended : (p : Bool) (bytes : List ℕ) → is_pasted_after p (bytes ++ paste_end) ≡ false
paste_ended p bytes =
    pasted_is (after p (bytes ++ paste_end)) p (bytes ++ paste_end) (after_heard p (bytes ++ paste_end))
    ∙ ap (λ (x : Tokenizer). x.is_pasted) (after-append p bytes paste_end ∙ end_state (after p bytes))

pub paste_ended_rest : (bytes : List ℕ) → rest (bytes ++ paste_end) ≡ []
paste_ended_rest bytes =
    rest_nothing (after false (bytes ++ paste_end)) false (bytes ++ paste_end) (after_heard false (bytes ++ paste_end))
    (ap (λ (x : Tokenizer). x.state) (after-append false bytes paste_end ∙ end_state (after false bytes)))
